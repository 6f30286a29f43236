use Rattle.std.proofs.Common.{arith}
use Rattle.topological_order.proofs.Numbers.{numbered_more}
use Rattle.topological_order.proofs.components.number.Goals as goal

pub loop-node-preserved : goal.loop-node-preserved
loop-node-preserved c =
    let at = c.loop-node.node-index in
    numbered_more c.args.nodes.now c.args.component at c.args.numbers.now.items c.loop-node.numbers.items (omega arith)
    (c.requires at 0 (omega arith)) c.loop-node.invariant
