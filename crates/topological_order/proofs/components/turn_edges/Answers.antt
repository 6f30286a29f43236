use Rattle.std.proofs.Common.{◌≡◌, ◌+◌, ◌<◌, ◌++◌, ◌∷◌, [], length, get_or, set, take, refl, sym, ap, subst, ◌∙◌, arith}
use Rattle.std.proofs.lemmas.List.{map-set}
use Rattle.topological_order.specs.Graphs.{EdgeLists, edge_lists_of, row_of}
use Rattle.topological_order.specs.Components.{IsTurnedAt}
use Rattle.topological_order.proofs.Edges.{graph_length, row_read}
use Rattle.topological_order.proofs.Turning.{turned_more}
use Rattle.topological_order.proofs.components.turn_edges.Goals as goal

pub loop-to-preserved : goal.loop-to-preserved
loop-to-preserved c =
    let old = edge_lists_of c.args.turned.now.items in
    let turned = c.loop-to.turned.items in
    let at = c.loop-to.to-index in
    let to = get_or c.args.row.now at 0 in
    let long = graph_length c.args.turned.now.items in
    let within : to < length c.args.turned.now.items = c.requires.row at 0 (omega arith) in
    let inside : to < length turned = omega (arith, graph_length turned, c.loop-to.invariant.nodes) in
    let row : row_of (edge_lists_of turned) to ≡ c.index_mut.result.now.items = row_read turned to c.index_mut.result.now c.index_mut.result.now.items
    inside c.index_mut.ensures.value refl in
    let grown : c.push.new.self.items ≡ row_of (edge_lists_of turned) to ++ c.args.from ∷ [] = c.in_ok-push.ensures.items
    ∙ ap (λ xs. xs ++ c.args.from ∷ []) (sym row) in
    let after : edge_lists_of (set turned to c.push.new.self) ≡ set (edge_lists_of turned) to (row_of (edge_lists_of turned) to ++ c.args.from ∷ []) =
    map-set (λ row. row.items) turned to c.push.new.self ∙ ap (λ xs. set (edge_lists_of turned) to xs) grown in
    let P : EdgeLists → Type 0 = λ g. IsTurnedAt old g c.args.from (take (at + 1) c.args.row.now) in
    subst P (sym after) (turned_more old (edge_lists_of turned) c.args.from at c.args.row.now (omega arith) (omega arith) (omega arith)
    c.loop-to.invariant)
