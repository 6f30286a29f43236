use Rattle.std.proofs.Common.{ap, ◌∙◌, sym, subst}
use Rattle.bdl_check.specs.Recursion.{links}
use Rattle.bdl_check.proofs.Links.{links_closed, cyclic_below, some_at}
use Rattle.topological_order.specs.declared.Sorted.{Sorted}
use Rattle.topological_order.specs.declared.Sorted.TheVariants.{Cycle}
use Rattle.topological_order.specs.Graphs.{EdgeLists, edge_lists_of, IsClosed}
use Rattle.topological_order.specs.Orders.{IsSorted}
use Rattle.bdl_check.proofs.recursion.order_of.Goals as goal

pub topological_order-requires : goal.topological_order-requires
topological_order-requires c =
    subst (λ (graph : EdgeLists). IsClosed graph) (sym (ap edge_lists_of c.deref.ensures.value ∙ c.in_ok-rows.ensures)) (links_closed c.args.declarations.now)

pub unwrap-first-requires : goal.unwrap-first-requires
unwrap-first-requires c =
    let ds = c.args.declarations.now in
    let sorted = subst (λ (graph : EdgeLists). IsSorted graph c.in_ok-order.field-0) (ap edge_lists_of c.deref.ensures.value ∙ c.in_ok-rows.ensures)
    c.in_ok-order.ensures in
    let first : IsSorted (links ds) (Cycle c.in-Cycle.number) = subst (λ (s : Sorted). IsSorted (links ds) s) c.in-Cycle.is sorted in
    some_at ds c.in-Cycle.number c.get.result c.get.ensures (cyclic_below ds c.in-Cycle.number first.cyclic)
