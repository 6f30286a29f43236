use Rattle.topological_order.proofs.Reaching.{IsFrom}
use Rattle.topological_order.proofs.cycles.reaches_itself.Given as goal

abbrev pub invariant-loop-next : goal.invariant-loop-next
invariant-loop-next l = IsFrom l.graph l.node l.next-index l.walk
