use Rattle.std.proofs.Common.{◌+◌, ◌-◌, length}
use Rattle.context_model.specs.Paths.{path_before}
use Rattle.bag_model.specs.Sizes.{shape_size, nodes_size}
use Rattle.field_table.specs.Plain.{nodes_of, shape_of}
use Rattle.scalar_types.specs.KindViews.{kind_of}
use Rattle.bag_normal.specs.Data.{RisesUpTo}
use Rattle.bag_normal.proofs.Below.{InField, IsSupersededAtKey}
use Rattle.bag_normal.proofs.FieldHeaders.{AddsFields}
use Rattle.bag_normal.proofs.Keys.{AddsKeys}
use Rattle.bag_normal.proofs.fields.+adding.Given as goal

abbrev pub decreases-add_field : goal.decreases-add_field
decreases-add_field l = shape_size (shape_of l.shape.now)

-- A map counts two, so that a walk over its keys is less.
abbrev pub decreases-add_values : goal.decreases-add_values
decreases-add_values l = shape_size (shape_of l.shape.now) + 1

abbrev pub decreases-add_fields : goal.decreases-add_fields
decreases-add_fields l = nodes_size (nodes_of l.fields.now)

abbrev pub invariant-add_values-keys : goal.invariant-add_values-keys
invariant-add_values-keys l = record {
  rises : RisesUpTo l.gone.items l.place;
  keys : AddsKeys (IsSupersededAtKey (kind_of l.kind) (shape_of l.shape) l.list (path_before l.list l.fn.from)) l.list (path_before l.list l.fn.from) l.fn.from l.place l.fn.gone.items l.gone.items;
}

abbrev pub decreases-add_values-keys : goal.decreases-add_values-keys
decreases-add_values-keys l = length l.list - l.place

abbrev pub invariant-add_fields-headers : goal.invariant-add_fields-headers
invariant-add_fields-headers l = record {
  rises : RisesUpTo l.gone.items l.place;
  fields : AddsFields (nodes_of l.fields) (InField l.list) l.list (path_before l.list l.fn.from) l.level l.fn.from l.place l.fn.gone.items l.gone.items;
}

abbrev pub decreases-add_fields-headers : goal.decreases-add_fields-headers
decreases-add_fields-headers l = length l.list - l.place
