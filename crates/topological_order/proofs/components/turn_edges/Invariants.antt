use Rattle.std.proofs.Common.{take}
use Rattle.topological_order.specs.Graphs.{edge_lists_of}
use Rattle.topological_order.specs.Components.{IsTurnedAt}
use Rattle.topological_order.proofs.components.turn_edges.Given as goal

abbrev pub invariant-loop-to : goal.invariant-loop-to
invariant-loop-to l = IsTurnedAt (edge_lists_of l.initial.turned.items) (edge_lists_of l.turned.items) l.from (take l.to-index l.row)
