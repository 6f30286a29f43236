use Rattle.std.proofs.Common.{sym, subst, arith}
use Rattle.table_text.specs.Builder.{rows_so_far}
use Rattle.table_text.specs.Reading.{IsRefusalBehind}
use Rattle.table_text.proofs.LineRefusals.{said_more, said_bad}
use Rattle.table_text.proofs.reading.read_lines.Goals as goal

pub returns-in-Err-clause-err : goal.returns-in-Err-clause-err
returns-in-Err-clause-err c =
    subst (IsRefusalBehind c.args.text.now) (sym c.of_line.ensures)
    (said_bad c.args.text.now c.loop-line.number c.loop-line.rest.now c.in-Some.line.now c.in-Some.behind.now (rows_so_far c.loop-line.builder) c.loop-line.invariant.said
    c.in-Some.ensures.lines c.in-Err.refusal c.in-Err.ensures.err)

pub loop-line-preserved : goal.loop-line-preserved
loop-line-preserved c = record {
  sound = c.in-Ok.ensures.sound;
  fresh = c.in-Ok.ensures.fresh;
  said =
      said_more c.args.text.now c.loop-line.number c.loop-line.rest.now c.in-Some.line.now c.in-Some.behind.now (rows_so_far c.loop-line.builder) (rows_so_far c.read_line.new.self)
      c.loop-line.invariant.said c.in-Some.ensures.lines c.in-Ok.ensures.rows;
  numbers = omega (arith, c.loop-line.invariant.numbers, c.in-Some.ensures.shorter);
}
