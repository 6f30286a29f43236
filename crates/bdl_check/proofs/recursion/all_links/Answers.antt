use Rattle.bdl_check.proofs.Links.{row_of, rows_are}
use Rattle.topological_order.specs.Graphs.{edge_lists_of}
use Rattle.bdl_check.proofs.recursion.all_links.Goals as goal

pub returns : goal.returns
returns c =
    rows_are (row_of c.args.declarations.now) c.args.declarations.now (edge_lists_of c.loop-declaration.rows.items)
    c.as_slice-declaration-items.result.now c.loop-declaration.declaration-index c.loop-declaration.invariant c.loop-declaration-test.false
    c.as_slice-declaration-items.ensures
