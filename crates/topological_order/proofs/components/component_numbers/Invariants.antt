use Rattle.topological_order.specs.Graphs.{edge_lists_of}
use Rattle.topological_order.specs.Walk.{trail_of}
use Rattle.topological_order.proofs.Numbers.{IsNumberedTo}
use Rattle.topological_order.proofs.components.component_numbers.Given as goal

abbrev pub invariant-loop-at : goal.invariant-loop-at
invariant-loop-at l = IsNumberedTo (edge_lists_of l.graph) l.order l.at (trail_of l.walk) l.numbers.items
