use Rattle.std.proofs.Common.{◌≡◌, ℕ, List, [], ◌<◌, length, get_or, below_more, sym, ap, subst, ◌∙◌, arith}
use Rattle.std.specs.List.{All}
use Rattle.std.proofs.lemmas.List.{get_or-map, get_or_default}
use Rattle.topological_order.specs.Graphs.{edge_lists_of}
use Rattle.topological_order.proofs.Edges.{graph_length}
use Rattle.rows_language.proofs.orders.is_closed.Goals as goal

pub loop-row-preserved : goal.loop-row-preserved
loop-row-preserved c =
    let graph = c.args.graph.now in
    let at = c.loop-row.row-index in
    let item = c.row-item.result in
    let row : get_or (edge_lists_of graph) at [] ≡ c.deref.result.now =
    get_or-map (λ row. row.items) graph at item [] (omega arith) ∙ ap (λ row. row.items) (sym c.row-item.is) ∙ sym c.deref.ensures.value in
    let P : List ℕ → Type 0 = All (λ to. to < length graph) in
    below_more (λ k. P (get_or (edge_lists_of graph) k [])) at c.loop-row.invariant (subst P (sym row) (c.is_within.ensures c.if-not-is_within.false))

pub returns : goal.returns
returns c = λ yes k d l.
    let graph = c.args.graph.now in
    let long = graph_length graph in
    let P : ℕ → List ℕ → Type 0 = λ n. All (λ to. to < n) in
    let there : P (length graph) (get_or (edge_lists_of graph) k []) = c.loop-row.invariant k (omega arith) in
    subst (λ (n : ℕ). P n (get_or (edge_lists_of graph) k d)) (sym long) (subst (P (length graph)) (get_or_default (edge_lists_of graph) k [] d l) there)
