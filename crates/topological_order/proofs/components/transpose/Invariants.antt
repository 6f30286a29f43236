use Rattle.topological_order.specs.Graphs.{edge_lists_of}
use Rattle.topological_order.proofs.Turning.{IsBlank, IsTurnedTo}
use Rattle.topological_order.proofs.components.transpose.Given as goal

abbrev pub invariant-loop : goal.invariant-loop
invariant-loop l = IsBlank (edge_lists_of l.turned.items) l.index

abbrev pub invariant-loop-from : goal.invariant-loop-from
invariant-loop-from l = IsTurnedTo (edge_lists_of l.graph) (edge_lists_of l.turned.items) l.from
