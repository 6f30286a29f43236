use Rattle.std.proofs.Common.{◌≡◌, inr, Ok, refl, ◌∙◌, ap, subst, [], ◌∷◌}
use Rattle.context_model.specs.Framing.{bytes_of}
use Rattle.text_lines.specs.HexLines.{hex_line}
use Rattle.text_lines.specs.Lines.{lines_of}
use Rattle.baggage_cli.specs.Outcomes.{outcome_of, OrMemory}
use Rattle.baggage_cli.specs.Reading.{Framed, cut_lines}
use Rattle.baggage_cli.specs.Trim.{trimmed_line, TrimsLines}
use Rattle.baggage_cli.proofs.CutLines.{only_cut}
use Rattle.baggage_cli.proofs.OnlyLines.{refused_one}
use Rattle.baggage_cli.proofs.commands.trim.trimmed_line.Goals as goal

pub returns-in_err-form : goal.returns-in_err-form
returns-in_err-form c =
    let budget = c.from-budget.result in
    subst (λ b. OrMemory (TrimsLines b (lines_of c.args.input.now)) (outcome_of c.from_residual.result)) (c.from-budget.ensures ∙ c.get.ensures.value)
    (refused_one (cut_lines budget) (λ said output. output ≡ trimmed_line budget said) (lines_of c.args.input.now) c.from_residual.result c.in_err-form.field-0.0 c.from_residual.ensures.1 c.in_err-form.ensures.err)

pub trim-requires : goal.trim-requires
trim-requires c =
    let said : Framed = (c.in_ok-form.form, c.in_ok-form.list) in
    only_cut c.from-budget.result (lines_of c.args.input.now) said c.in_ok-form.ensures.ok

pub returns : goal.returns
returns c =
    let budget = c.from-budget.result in
    let said : Framed = (c.in_ok-form.form, c.in_ok-form.list) in
    let written = c.in_ok-hex_line.ensures ∙ ap hex_line (c.as_slice.ensures.value ∙ c.in_ok-bytes.ensures ∙ ap (bytes_of said.0) c.trim.ensures) in
    subst (λ b. OrMemory (TrimsLines b (lines_of c.args.input.now)) (Ok c.in_ok-hex_line.field-0.items)) (c.from-budget.ensures ∙ c.get.ensures.value)
    (inr (inr (said ∷ [], c.in_ok-form.ensures.ok, (said, refl, written))))
