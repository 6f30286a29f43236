use Rattle.std.proofs.Common.{inr, refl, [], ◌∷◌}
use Rattle.report_text.specs.Blocks.{IsBlock}
use Rattle.text_lines.specs.Lines.{lines_of}
use Rattle.baggage_cli.specs.Reading.{Framed, typed_lines}
use Rattle.baggage_cli.proofs.OnlyLines.{refused_one}
use Rattle.baggage_cli.proofs.TypedLines.{only_typed}
use Rattle.baggage_cli.proofs.commands.decode.decoded_block.Goals as goal

pub returns-in_err-form : goal.returns-in_err-form
returns-in_err-form c =
    refused_one (typed_lines c.args.table.now) (λ said. IsBlock c.args.table.now said.0 said.1) (lines_of c.args.input.now) c.from_residual.result c.in_err-form.field-0.0 c.from_residual.ensures.1 c.in_err-form.ensures.err

pub block-requires : goal.block-requires
block-requires c =
    let said : Framed = (c.in_ok-form.form, c.in_ok-form.context) in
    only_typed c.args.table.now (lines_of c.args.input.now) said c.in_ok-form.ensures.ok

pub returns : goal.returns
returns c =
    let said : Framed = (c.in_ok-form.form, c.in_ok-form.context) in
    inr (inr (said ∷ [], c.in_ok-form.ensures.ok, (said, refl, c.in_ok-block.ensures)))
