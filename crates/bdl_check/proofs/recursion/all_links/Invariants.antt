use Rattle.std.proofs.Common.{◌≡◌, map, take}
use Rattle.bdl_check.specs.DeclarationViews.{placed_of}
use Rattle.bdl_check.proofs.Links.{row_of}
use Rattle.topological_order.specs.Graphs.{edge_lists_of}
use Rattle.bdl_check.proofs.recursion.all_links.Given as goal

abbrev pub invariant-loop-declaration : goal.invariant-loop-declaration
invariant-loop-declaration l =
    edge_lists_of l.rows.items ≡ map (λ d. row_of l.declarations (placed_of d)) (take l.declaration-index l.declaration-items)
