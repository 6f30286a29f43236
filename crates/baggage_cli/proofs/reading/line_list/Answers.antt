use Rattle.std.proofs.Common.{◌≤◌, ◌∙◌, ap, subst}
use Rattle.context_model.specs.Framing.{form_of, least_budget}
use Rattle.text_lines.specs.Lines.{line_value}
use Rattle.baggage_cli.proofs.Misread.{misread_list}
use Rattle.baggage_cli.proofs.reading.line_list.Goals as goal

pub returns-in-Err-clause-err : goal.returns-in-Err-clause-err
returns-in-Err-clause-err c =
    let bytes = c.in_ok-bytes.bytes.items in
    let least = c.least_budget.ensures ∙ ap least_budget (c.form_of-form.ensures ∙ ap form_of c.as_slice.ensures.value) in
    let enough = subst (λ n. n ≤ c.args.budget) least c.if-budget-least_budget.false in
    misread_list c.args.budget (line_value c.args.line.now) bytes c.in-Err.fault c.from.result c.misread.result c.in_ok-bytes.ensures.ok enough c.in-Err.ensures.fault c.from.ensures c.misread.ensures
