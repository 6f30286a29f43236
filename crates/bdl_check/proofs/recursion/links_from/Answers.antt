use Rattle.std.proofs.Common.{◌+◌, drop, map}
use Rattle.bdl_check.specs.Declarations.{number_named}
use Rattle.bdl_check.specs.Recursion.{uses}
use Rattle.bdl_check.proofs.DeclLaws.{next_left}
use Rattle.bdl_check.proofs.Links.{field_added}
use Rattle.bdl_parser.specs.Views.{bag_field_of}
use Rattle.std.specs.List.{filter_map}
use Rattle.bdl_check.proofs.recursion.links_from.Goals as goal

pub loop-field-preserved : goal.loop-field-preserved
loop-field-preserved c =
    field_added (number_named c.args.declarations.now) (filter_map (number_named c.args.declarations.now) (uses c.args.decl.now))
    c.loop-field.row.items c.add_links.new.row.items
    (map bag_field_of (drop c.loop-field.field-index c.as_slice-field-items.result.now))
    (map bag_field_of (drop (c.loop-field.field-index + 1) c.as_slice-field-items.result.now)) (bag_field_of c.field-item.result)
    (next_left bag_field_of c.as_slice-field-items.result.now c.loop-field.field-index c.field-item.result c.loop-field-test.true c.field-item.is)
    c.loop-field.invariant c.in_ok-add_links.ensures
