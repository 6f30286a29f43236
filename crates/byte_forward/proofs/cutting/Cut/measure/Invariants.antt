use Rattle.byte_forward.proofs.Walks.{IsWalk}
use Rattle.byte_forward.proofs.cutting.Cut.measure.Given as goal

abbrev pub invariant-loop : goal.invariant-loop
invariant-loop l = IsWalk l.fn.self l.cut

abbrev pub decreases-loop : goal.decreases-loop
decreases-loop l = l.cut.left
