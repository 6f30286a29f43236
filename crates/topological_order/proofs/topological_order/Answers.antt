use Rattle.std.proofs.Common.{None, subst}
use Rattle.topological_order.specs.Graphs.{edge_lists_of}
use Rattle.topological_order.specs.Cycles.{IsFirstInCycle}
use Rattle.topological_order.proofs.Orders.{finished_is_order}
use Rattle.topological_order.proofs.topological_order.Goals as goal

pub returns-in-None : goal.returns-in-None
returns-in-None c =
    let graph = edge_lists_of c.args.graph.now in
    let none : IsFirstInCycle graph None = subst (IsFirstInCycle graph) c.in-None.is c.in_ok-node.ensures in
    finished_is_order graph c.in_ok-order.order.items c.in_ok-order.ensures none
