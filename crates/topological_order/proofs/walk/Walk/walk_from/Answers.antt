use Rattle.std.proofs.Common.{◌<◌, length, sym, subst, arith}
use Rattle.topological_order.specs.Walk.{Trail, trail_of, IsWalkedFrom}
use Rattle.topological_order.proofs.Edges.{graph_length}
use Rattle.topological_order.proofs.Walking.{walk_begun, walk_more}
use Rattle.topological_order.proofs.walk.Walk.walk_from.Goals as goal

pub loop-node-init : goal.loop-node-init
loop-node-init c =
    let s = trail_of c.args.self.now in
    let within : c.args.root < length s.graph = omega (arith, c.requires.root, graph_length c.args.self.now.graph.now) in
    let P : Trail → Type 0 = λ t. IsWalkedFrom s t c.args.root in
    subst P (sym c.in_ok-meet.ensures) (walk_begun s c.args.root c.requires.rests within)

pub loop-node-preserved : goal.loop-node-preserved
loop-node-preserved c =
    walk_more (trail_of c.args.self.now) (trail_of c.loop-node.self) (trail_of c.step.new.self) c.args.root c.requires.rests c.loop-node.invariant
    c.in_ok-step.ensures
