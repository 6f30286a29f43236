use Rattle.std.proofs.Common.{◌≡◌, ◌++◌, take}
use Rattle.std.specs.List.{flat_map}
use Rattle.bag_model.specs.Shapes.{fields}
use Rattle.bag_model.specs.Sizes.{shape_size, nodes_size}
use Rattle.field_table.specs.Plain.{shape_of, nodes_of}
use Rattle.table_text.proofs.Printed.{one_text}
use Rattle.table_text.proofs.printing.+printing.Given as goal

abbrev pub decreases-put_fields : goal.decreases-put_fields
decreases-put_fields l = nodes_size (nodes_of l.fields.now)

abbrev pub decreases-put_bag : goal.decreases-put_bag
decreases-put_bag l = shape_size (shape_of l.shape.now)

abbrev pub invariant-put_fields-loop-at : goal.invariant-put_fields-loop-at
invariant-put_fields-loop-at l =
    l.into.items ≡ l.fn.into.items ++ flat_map (one_text l.depth) (take l.at (fields (nodes_of l.fields)))
