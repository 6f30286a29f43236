use Rattle.std.proofs.Common.{rules, ◌≡◌, ◌+◌, ◌<◌, Bool, true, false, not, IsTrue, refl, length, get_or, sym, ap, ◌∙◌, arith}
use Rattle.topological_order.specs.Graphs.{edge_lists_of, row_of, HasEdge}
use Rattle.topological_order.specs.Walk.{mark_of, is_new}
use Rattle.topological_order.proofs.Edges.{graph_length, row_read, edge_read, has_edge, to_within}
use Rattle.topological_order.proofs.Marks.{new_mark}
use Rattle.topological_order.proofs.Reaching.{from_more, from_all}
use Rattle.topological_order.proofs.Walking.{up_within}
use Rattle.topological_order.proofs.cycles.reaches_itself.Goals as goal

pub walk_from-requires-clause-root : goal.walk_from-requires-clause-root
walk_from-requires-clause-root c =
    let graph = c.args.graph.now in
    let node = c.args.node in
    let at = c.loop-next.next-index in
    let items = c.deref-next-items.result.now in
    let edge = edge_read graph node at c.index-graph-node.result items c.requires.node c.index-graph-node.is c.deref-next-items.ensures.value
    c.loop-next-test.true in
    let within : get_or items at 0 < length (edge_lists_of graph) = to_within (edge_lists_of graph) node at (get_or items at 0) c.requires.closed
    (omega (arith, c.requires.node, graph_length graph)) edge in
    up_within graph c.loop-next.walk (get_or items at 0) c.loop-next.invariant.same (omega (arith, graph_length graph))

pub loop-next-preserved : goal.loop-next-preserved
loop-next-preserved c =
    let graph = c.args.graph.now in
    let node = c.args.node in
    let at = c.loop-next.next-index in
    let items = c.deref-next-items.result.now in
    let edge = edge_read graph node at c.index-graph-node.result items c.requires.node c.index-graph-node.is c.deref-next-items.ensures.value
    c.loop-next-test.true in
    let leads : HasEdge (edge_lists_of graph) node (get_or items at 0) = has_edge (edge_lists_of graph) node at (get_or items at 0)
    (omega (arith, c.requires.node, graph_length graph)) edge in
    from_more graph node at (get_or items at 0) c.loop-next.walk c.walk_from.new.self c.loop-next.invariant edge leads c.in_ok-walk_from.ensures.walk
    c.in_ok-walk_from.ensures.path

-- What was met isn't new.
yes_met : (new : Bool) → IsTrue (not new) → new ≡ true → ⊥
yes_met true sure is = (search rules)
yes_met false sure is = (cc)

-- What isn't new was met.
met_yes : (new : Bool) → (new ≡ true → ⊥) → IsTrue (not new)
met_yes true met = absurd (met refl)
met_yes false met = (search rules)

pub returns : goal.returns
returns c =
    let graph = c.args.graph.now in
    let node = c.args.node in
    let walk = c.loop-next.walk in
    let row = row_read graph node c.index-graph-node.result c.deref-next-items.result.now c.requires.node c.index-graph-node.is
    c.deref-next-items.ensures.value in
    let all : length (row_of (edge_lists_of graph) node) < c.loop-next.next-index + 1 = omega (arith, ap (λ xs. length xs) row, c.loop-next-test.false) in (
      λ yes. c.loop-next.invariant.reached node (λ new. yes_met c.is_new.result yes (c.is_new.ensures ∙ ap is_new new)),
      λ r. let met = from_all graph node c.loop-next.next-index node walk c.loop-next.invariant (omega arith) r in met_yes c.is_new.result
          (λ new. met (new_mark (mark_of walk.marks.items node) (sym c.is_new.ensures ∙ new))),
    )
