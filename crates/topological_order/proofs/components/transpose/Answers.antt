use Rattle.std.proofs.Common.{[], length, get_or, ap, arith}
use Rattle.topological_order.specs.Graphs.{edge_lists_of}
use Rattle.topological_order.proofs.Edges.{graph_length, row_read}
use Rattle.topological_order.proofs.Turning.{turned_next, turned_all}
use Rattle.topological_order.proofs.components.transpose.Goals as goal

pub turn_edges-requires-clause-row : goal.turn_edges-requires-clause-row
turn_edges-requires-clause-row c = λ k d l.
    let graph = c.args.graph.now in
    let from = c.loop-from.from in
    let row = row_read graph from c.index-graph-from.result c.deref.result.now c.loop-from-test.true c.index-graph-from.is c.deref.ensures.value in
    let within = c.requires from [] (omega (arith, graph_length graph, c.loop-from-test.true)) k d (omega (arith, ap (λ xs. length xs) row)) in
    omega (arith, within, ap (λ xs. get_or xs k d) row, c.loop-from.invariant.nodes, graph_length c.loop-from.turned.items)

pub loop-from-preserved : goal.loop-from-preserved
loop-from-preserved c =
    let graph = c.args.graph.now in
    let from = c.loop-from.from in
    let row = row_read graph from c.index-graph-from.result c.deref.result.now c.loop-from-test.true c.index-graph-from.is c.deref.ensures.value in
    turned_next (edge_lists_of graph) (edge_lists_of c.loop-from.turned.items) (edge_lists_of c.turn_edges.new.turned.items) from c.deref.result.now row
    c.loop-from.invariant c.in_ok-turn_edges.ensures

pub returns : goal.returns
returns c = turned_all (edge_lists_of c.args.graph.now) (edge_lists_of c.loop-from.turned.items) c.loop-from.from
    (omega (arith, graph_length c.args.graph.now, c.loop-from-test.false)) c.loop-from.invariant
