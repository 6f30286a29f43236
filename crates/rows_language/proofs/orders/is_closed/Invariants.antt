use Rattle.std.proofs.Common.{ℕ, [], ◌<◌, length, get_or}
use Rattle.std.specs.List.{All}
use Rattle.topological_order.specs.Graphs.{edge_lists_of}
use Rattle.rows_language.proofs.orders.is_closed.Given as goal

abbrev pub invariant-loop-row : goal.invariant-loop-row
invariant-loop-row l = (k : ℕ) → k < l.row-index → All (λ to. to < length l.graph) (get_or (edge_lists_of l.graph) k [])
