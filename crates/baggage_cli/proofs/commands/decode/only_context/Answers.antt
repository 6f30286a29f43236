use Rattle.std.proofs.Common.{inr, sym, ◌∙◌}
use Rattle.std.proofs.lemmas.Result.{err_from_is_err_and}
use Rattle.text_lines.specs.Lines.{line_value, lines_of}
use Rattle.baggage_cli.specs.Reading.{typed_lines}
use Rattle.baggage_cli.proofs.OnlyLines.{first_is_bad, second_is_bad}
use Rattle.baggage_cli.proofs.commands.decode.only_context.Goals as goal

pub returns-in_err-said-clause-err : goal.returns-in_err-said-clause-err
returns-in_err-said-clause-err c =
    let same = err_from_is_err_and c.from_residual-in_err-said.result c.from_residual-in_err-said.ensures.1 in
    rw (same.1, same.2) (first_is_bad (typed_lines c.args.table.now) (lines_of c.args.input.now) (line_value c.in_ok-line.line) c.first_line.new.lines c.in_err-said.field-0.0
    (sym c.lines_of-lines.ensures ∙ c.in_ok-line.ensures.ok) c.in_err-said.ensures.err)

pub returns-in_err-end_lines-clause-err : goal.returns-in_err-end_lines-clause-err
returns-in_err-end_lines-clause-err c =
    let same = err_from_is_err_and c.from_residual-in_err-end_lines.result c.from_residual-in_err-end_lines.ensures.1 in
    rw (same.1, same.2) (inr (second_is_bad (typed_lines c.args.table.now) (lines_of c.args.input.now) (line_value c.in_ok-line.line) c.first_line.new.lines c.in_ok-said.said
    c.in_err-end_lines.field-0.0 (sym c.lines_of-lines.ensures ∙ c.in_ok-line.ensures.ok) c.in_err-end_lines.ensures.err c.in_ok-said.ensures.ok))
