use Rattle.keep_calls.specs.Walk.{IsGapStart, HoldUpTo}
use Rattle.keep_calls.proofs.keeping.keep.Given as goal

abbrev pub invariant-loop-slot : goal.invariant-loop-slot
invariant-loop-slot l = record {
  starts : IsGapStart l.table l.list l.slot l.from;
  held : HoldUpTo l.table l.others l.list l.from l.pieces.items;
}
