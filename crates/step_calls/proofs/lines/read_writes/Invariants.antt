use Rattle.std.proofs.Common.{◌+◌, ◌≤◌, length}
use Rattle.step_calls.proofs.LineTexts.{HasSaid}
use Rattle.step_calls.proofs.lines.read_writes.Given as goal

abbrev pub invariant-loop-line : goal.invariant-loop-line
invariant-loop-line l = record {
  said : HasSaid l.form l.table l.text l.number l.rest l.lists.items;
  numbers : l.number + length l.rest ≤ length l.text + 1;
}

abbrev pub decreases-loop-line : goal.decreases-loop-line
decreases-loop-line l = length l.rest
