use Rattle.std.proofs.Common.{below_more, arith}
use Rattle.topological_order.specs.Graphs.{edge_lists_of, LeadsTo}
use Rattle.topological_order.proofs.Edges.{graph_length, reach_within}
use Rattle.topological_order.proofs.Reaching.{leaves}
use Rattle.topological_order.proofs.cycles.first_cyclic.Goals as goal
use Rattle.topological_order.proofs.cycles.first_cyclic.Goals.{else-stays-via-then-stays+in_ok-reaches_itself+else-branch, else-stays-via-else-stays}

pub loop-node-preserved : goal.loop-node-preserved
loop-node-preserved c =
    let graph = edge_lists_of c.args.graph.now in
    let here : LeadsTo graph c.loop-node.node c.loop-node.node → ⊥ = elim c.else-stays.branch [
      | else-stays-via-then-stays+in_ok-reaches_itself+else-branch w ↦ λ r. let yes = w.in_ok-reaches_itself.ensures.1 r in (cc)
      | else-stays-via-else-stays w ↦ leaves graph c.args.numbers.now c.loop-node.node c.stays.result c.requires.numbers c.stays.ensures
          w.if-stays.false
    ] in
    below_more (λ node. LeadsTo graph node node → ⊥) c.loop-node.node c.loop-node.invariant here

pub returns : goal.returns
returns c = λ node r.
    let within = reach_within (edge_lists_of c.args.graph.now) node node r in
    c.loop-node.invariant node (omega (arith, within, graph_length c.args.graph.now)) r
