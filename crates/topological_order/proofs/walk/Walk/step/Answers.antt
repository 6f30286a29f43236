use Rattle.std.proofs.Common.{arith}
use Rattle.topological_order.specs.Walk.{trail_of}
use Rattle.topological_order.proofs.Edges.{graph_length}
use Rattle.topological_order.proofs.Steps.{is_here}
use Rattle.topological_order.proofs.walk.Walk.step.Goals as goal

pub index-requires : goal.index-requires
index-requires c =
    let h = is_here (trail_of c.args.self.now) c.args.node c.requires.walk c.requires.top in
    omega (arith, h.within, c.requires.walk.all_counted, c.args.self.now.followed.ok.0)

pub edge-requires : goal.edge-requires
edge-requires c =
    let h = is_here (trail_of c.args.self.now) c.args.node c.requires.walk c.requires.top in
    omega (arith, h.within, graph_length c.args.self.now.graph.now)
