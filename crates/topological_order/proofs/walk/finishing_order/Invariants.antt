use Rattle.topological_order.proofs.Walking.{IsUpTo}
use Rattle.topological_order.proofs.walk.finishing_order.Given as goal

abbrev pub invariant-loop-root : goal.invariant-loop-root
invariant-loop-root l = IsUpTo l.graph l.walk l.root
