use Rattle.std.proofs.Common.{◌+◌, ◌-◌, length}
use Rattle.context_model.specs.Paths.{path_before}
use Rattle.bag_model.specs.Sizes.{shape_size, nodes_size}
use Rattle.field_table.specs.Plain.{shape_of, nodes_of}
use Rattle.scalar_types.specs.KindViews.{kind_of}
use Rattle.bag_typed.proofs.Fields.{ClearsFields}
use Rattle.bag_typed.proofs.Keys.{ClearsKeys}
use Rattle.bag_typed.proofs.Shapes.{of_key}
use Rattle.bag_typed.proofs.walk.+check.Given as goal

abbrev pub decreases-check_slot : goal.decreases-check_slot
decreases-check_slot l = shape_size (shape_of l.shape.now)

abbrev pub decreases-check_fields : goal.decreases-check_fields
decreases-check_fields l = nodes_size (nodes_of l.fields.now)

abbrev pub decreases-check_entries : goal.decreases-check_entries
decreases-check_entries l = 1 + shape_size (shape_of l.value.now)

abbrev pub invariant-check_entries-keys : goal.invariant-check_entries-keys
invariant-check_entries-keys l =
    ClearsKeys (of_key (kind_of l.kind) (shape_of l.value) (path_before l.list l.from)) l.list (path_before l.list l.from) l.from l.place

abbrev pub decreases-check_entries-keys : goal.decreases-check_entries-keys
decreases-check_entries-keys l = length l.list - l.place

abbrev pub invariant-check_fields-headers : goal.invariant-check_fields-headers
invariant-check_fields-headers l = ClearsFields (nodes_of l.fields) l.list (path_before l.list l.from) l.from l.place

abbrev pub decreases-check_fields-headers : goal.decreases-check_fields-headers
decreases-check_fields-headers l = length l.list - l.place
