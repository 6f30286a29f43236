use Rattle.std.proofs.Common.{ℕ, ◌<◌}
use Rattle.topological_order.specs.Graphs.{edge_lists_of, LeadsTo}
use Rattle.topological_order.proofs.cycles.first_cyclic.Given as goal

abbrev pub invariant-loop-node : goal.invariant-loop-node
invariant-loop-node l = (node : ℕ) → node < l.node → LeadsTo (edge_lists_of l.graph) node node → ⊥
