use Rattle.std.proofs.Common.{◌≡◌, map, ◌∙◌, sym, subst}
use Rattle.text_lines.specs.Lines.{line_value, lines_of}
use Rattle.text_lines.proofs.LineLaws.{taken_before}
use Rattle.graph_text.specs.Reading.{IsGraphRefusalOf}
use Rattle.graph_text.proofs.TextSteps.{says_more, refused_at}
use Rattle.graph_text.proofs.reading.read_lines.Goals as goal

pub returns-in-Err-clause-fault : goal.returns-in-Err-clause-fault
returns-in-Err-clause-fault c =
    let start : lines_of c.args.text.now ≡ c.into_iter-line-iterator.result = cc (c.lines_of-line-items.ensures, c.into_iter-line-iterator.ensures.into_iter_gives) in
    let split = start ∙ taken_before c.into_iter-line-iterator.result c.loop-line.yielded c.loop-line.line-iterator c.loop-line.yielded_by in
    subst (IsGraphRefusalOf c.args.table.now c.args.text.now) (sym c.of_line.ensures)
    (refused_at c.args.table.now c.args.text.now (map line_value c.loop-line.yielded) (line_value c.in-Some.line) c.next.new.self c.loop-line.line-iterator
    c.loop-line.reader c.in-Err.refusal split c.in-Some.ensures.steps c.loop-line.invariant c.in-Err.ensures.err)

pub loop-line-preserved : goal.loop-line-preserved
loop-line-preserved c =
    says_more c.args.table.now c.loop-line.yielded c.loop-line.reader c.in-Ok.reader c.in-Some.line c.loop-line.invariant c.in-Ok.ensures.ok
