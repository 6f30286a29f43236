use Rattle.topological_order.proofs.Orders.{orders_exclude}
use Rattle.topological_order.proofs.laws.orders_exclude_cycles.Goals as goal

pub returns : goal.returns
returns c = orders_exclude
