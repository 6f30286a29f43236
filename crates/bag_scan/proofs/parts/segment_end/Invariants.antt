use Rattle.bag_walks.specs.Parts.{StaysBelow}
use Rattle.bag_scan.proofs.parts.segment_end.Given as goal

abbrev pub invariant-loop-at : goal.invariant-loop-at
invariant-loop-at l = StaysBelow l.list l.depth l.from l.at
