use Rattle.std.proofs.Common.{◌∙◌, ap}
use Rattle.std.proofs.lemmas.Result.{err_from_is_err_and}
use Rattle.context_model.specs.Framing.{offset_of}
use Rattle.text_lines.specs.Lines.{line_value}
use Rattle.baggage_cli.specs.Reading.{Framed}
use Rattle.baggage_cli.proofs.TypedLines.{says_typed, refuses_ill_typed, refuses_no_context}
use Rattle.baggage_cli.proofs.commands.decode.typed_context.Goals as goal

pub returns-in_err-form-clause-err : goal.returns-in_err-form-clause-err
returns-in_err-form-clause-err c =
    let same = err_from_is_err_and c.from_residual.result c.from_residual.ensures.1 in
    rw (same.1, same.2) (refuses_no_context c.args.table.now (line_value c.args.line.now) c.in_err-form.field-0.0 c.in_err-form.ensures.err)

pub returns-in-Ok-clause-ok : goal.returns-in-Ok-clause-ok
returns-in-Ok-clause-ok c =
    let said : Framed = (c.in_ok-form.form, c.in_ok-form.context) in
    says_typed c.args.table.now c.args.line.now.text.now said c.in_ok-form.ensures.ok c.in-Ok.ensures.typed

pub returns-in-Err-clause-err : goal.returns-in-Err-clause-err
returns-in-Err-clause-err c =
    let said : Framed = (c.in_ok-form.form, c.in_ok-form.context) in
    let offset = c.offset.ensures ∙ ap (λ list. offset_of said.0 list c.in-Err.place) c.list.ensures.list in
    refuses_ill_typed c.args.table.now (line_value c.args.line.now) said c.in-Err.place c.offset.result c.in_ok-form.ensures.ok c.in-Err.ensures.fault offset
