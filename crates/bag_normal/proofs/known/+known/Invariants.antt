use Rattle.std.proofs.Common.{◌-◌, length}
use Rattle.context_model.specs.Paths.{path_before}
use Rattle.bag_model.specs.Sizes.{shape_size, nodes_size}
use Rattle.field_table.specs.Plain.{nodes_of, shape_of}
use Rattle.field_table.specs.Views.{plain_view_of}
use Rattle.bag_normal.specs.Data.{RisesUpTo}
use Rattle.bag_normal.proofs.FieldHeaders.{AddsFields}
use Rattle.bag_normal.proofs.SlotTurns.{KnownInField}
use Rattle.bag_normal.proofs.known.+known.Given as goal

abbrev pub decreases-add_known : goal.decreases-add_known
decreases-add_known l = shape_size (shape_of l.shape.now)

abbrev pub decreases-add_known_fields : goal.decreases-add_known_fields
decreases-add_known_fields l = nodes_size (nodes_of l.fields.now)

abbrev pub invariant-add_known_fields-headers : goal.invariant-add_known_fields-headers
invariant-add_known_fields-headers l = record {
  rises : RisesUpTo l.gone.items l.place;
  fields : AddsFields (nodes_of l.fields) (KnownInField (plain_view_of l.view) l.before (nodes_of l.fields) l.list) l.list (path_before l.list l.fn.from) l.level l.fn.from l.place l.fn.gone.items l.gone.items;
}

abbrev pub decreases-add_known_fields-headers : goal.decreases-add_known_fields-headers
decreases-add_known_fields-headers l = length l.list - l.place
