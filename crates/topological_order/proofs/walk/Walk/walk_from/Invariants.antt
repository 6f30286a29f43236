use Rattle.topological_order.specs.Walk.{trail_of, effort, IsWalkedFrom}
use Rattle.topological_order.proofs.walk.Walk.walk_from.Given as goal

abbrev pub invariant-loop-node : goal.invariant-loop-node
invariant-loop-node l = IsWalkedFrom (trail_of l.fn.self) (trail_of l.self) l.root

abbrev pub decreases-loop-node : goal.decreases-loop-node
decreases-loop-node l = effort (trail_of l.self)
