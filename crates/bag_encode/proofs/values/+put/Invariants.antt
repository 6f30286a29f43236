use Rattle.std.proofs.Common.{◌+◌, ◌*◌, ◌++◌, map, drop}
use Rattle.bag_model.specs.Sizes.{shape_size, nodes_size}
use Rattle.bag_model.specs.Values.{AreOfShapes, pairs}
use Rattle.scalar_types.specs.KindViews.{kind_of}
use Rattle.field_table.specs.Plain.{field_of, nodes_of, shape_of}
use Rattle.bag_value.specs.Vals.{pair_of}
use Rattle.bag_encode.specs.Values.{field_atoms}
use Rattle.bag_encode.proofs.EntrySteps.{entries_atoms}
use Rattle.bag_encode.proofs.FieldSteps.{nodes_from_place, values_from_place}
use Rattle.bag_encode.proofs.Steps.{IsOnWay}
use Rattle.bag_encode.proofs.values.+put.Given as goal

abbrev pub decreases-put_value : goal.decreases-put_value
decreases-put_value l = 2 * shape_size (shape_of l.shape.now)

abbrev pub decreases-put_entries : goal.decreases-put_entries
decreases-put_entries l = 2 * shape_size (shape_of l.shape.now) + 1

abbrev pub decreases-put_field : goal.decreases-put_field
decreases-put_field l = 2 * shape_size (field_of l.field.now).shape + 1

abbrev pub decreases-put_fields : goal.decreases-put_fields
decreases-put_fields l = 2 * nodes_size (nodes_of l.fields.now)

abbrev pub invariant-put_entries-loop-entry : goal.invariant-put_entries-loop-entry
invariant-put_entries-loop-entry l =
    IsOnWay (l.initial.list ++ entries_atoms (kind_of l.kind) (shape_of l.shape) l.level (pairs l.entries)) l.list
    (entries_atoms (kind_of l.kind) (shape_of l.shape) l.level (map pair_of (drop l.entry-index l.entry-items)))

abbrev pub invariant-put_fields-loop-at : goal.invariant-put_fields-loop-at
invariant-put_fields-loop-at l = record {
  shapes : AreOfShapes (nodes_from_place l.at (nodes_of l.fields)) (values_from_place l.at l.values);
  written : IsOnWay (l.initial.list ++ field_atoms (nodes_of l.fields) l.level l.values) l.list
      (field_atoms (nodes_from_place l.at (nodes_of l.fields)) l.level (values_from_place l.at l.values));
}
