use Rattle.std.proofs.Common.{◌+◌, ◌≤◌, length}
use Rattle.table_text.specs.Builder.{IsSoundBuilder, IsFresh, rows_so_far}
use Rattle.table_text.proofs.LineRefusals.{HasSaid}
use Rattle.table_text.proofs.reading.read_lines.Given as goal

abbrev pub invariant-loop-line : goal.invariant-loop-line
invariant-loop-line l = record {
  sound : IsSoundBuilder l.builder;
  fresh : IsFresh l.builder;
  said : HasSaid l.text l.number l.rest (rows_so_far l.builder);
  numbers : l.number + length l.rest ≤ length l.text + 2;
}

abbrev pub decreases-loop-line : goal.decreases-loop-line
decreases-loop-line l = length l.rest
