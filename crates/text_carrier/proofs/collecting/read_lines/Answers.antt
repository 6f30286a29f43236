use Rattle.std.proofs.Common.{◌≡◌, ◌++◌, ◌∷◌, [], List, map, sym, ◌∙◌, subst}
use Rattle.std.proofs.lemmas.List.{map_push}
use Rattle.text_lines.specs.Lines.{Line, line_value, lines_of}
use Rattle.text_lines.specs.Readings.{AllSay}
use Rattle.text_lines.proofs.LineLaws.{taken_before}
use Rattle.text_lines.proofs.ReadingLaws.{all_say_more}
use Rattle.text_carrier.specs.Rules.{piece_lines}
use Rattle.text_carrier.specs.Views.{IsLineFault}
use Rattle.text_carrier.proofs.Joined.{refused_at}
use Rattle.text_carrier.proofs.collecting.read_lines.Goals as goal

pub returns-in-Err-clause-err : goal.returns-in-Err-clause-err
returns-in-Err-clause-err c =
    let start : lines_of c.args.text.now ≡ c.into_iter-line-iterator.result = cc (c.lines_of-line-items.ensures, c.into_iter-line-iterator.ensures.into_iter_gives) in
    let split = start ∙ taken_before c.into_iter-line-iterator.result c.loop-line.yielded c.loop-line.line-iterator c.loop-line.yielded_by in
    let (said, all, keeps) = c.loop-line.invariant in
    subst (IsLineFault (lines_of c.args.text.now)) (sym c.of_line.ensures)
    (refused_at (lines_of c.args.text.now) (map line_value c.loop-line.yielded) c.loop-line.line-iterator c.next.new.self (line_value c.in-Some.line) said
    c.in-Err.refusal split c.in-Some.ensures.steps all (c.in-Err.ensures.err said keeps))

pub loop-line-preserved : goal.loop-line-preserved
loop-line-preserved c =
    let (said, all, keeps) = c.loop-line.invariant in
    let (piece, good, more) = c.in_default.ensures.ok said keeps in (
      said ++ piece ∷ [],
      subst (λ (lines : List Line). AllSay piece_lines [] lines (said ++ piece ∷ [])) (sym (map_push line_value c.loop-line.yielded c.in-Some.line))
          (all_say_more piece_lines (map line_value c.loop-line.yielded) said (line_value c.in-Some.line) piece all good),
      more,
    )
