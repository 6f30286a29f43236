use Rattle.std.proofs.Common.{◌≡◌, ℕ, ◌<◌, get_or}
use Rattle.topological_order.specs.Graphs.{edge_lists_of, row_of}
use Rattle.topological_order.proofs.cycles.stays.Given as goal

abbrev pub invariant-loop-to : goal.invariant-loop-to
invariant-loop-to l = (edge : ℕ) → edge < l.to-index
    → get_or l.numbers (get_or (row_of (edge_lists_of l.graph) l.node) edge 0) 0 ≡ get_or l.numbers l.node 0 → ⊥
