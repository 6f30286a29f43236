use Rattle.std.proofs.Common.{◌+◌, ◌-◌, length, take}
use Rattle.context_model.specs.Paths.{path_before}
use Rattle.bag_model.specs.Readings.{PathsOf}
use Rattle.bag_model.specs.Shapes.{fields}
use Rattle.bag_model.specs.Sizes.{shape_size, nodes_size}
use Rattle.bag_model.specs.Values.{values_list, pairs}
use Rattle.bag_walks.specs.Parts.{StaysBelow}
use Rattle.bag_walks.specs.Gathering.{GathersEntries}
use Rattle.bag_scan.proofs.FieldTurns.{IsBefore}
use Rattle.field_table.specs.Plain.{shape_of, nodes_of}
use Rattle.scalar_types.specs.KindViews.{kind_of}
use Rattle.bag_decode.proofs.Fields.{EachReads}
use Rattle.bag_decode.proofs.decoding.+decode.Given as goal

abbrev pub decreases-decode_field : goal.decreases-decode_field
decreases-decode_field l = shape_size (shape_of l.shape.now)

abbrev pub decreases-decode_fields : goal.decreases-decode_fields
decreases-decode_fields l = nodes_size (nodes_of l.fields.now)

abbrev pub decreases-decode_entries : goal.decreases-decode_entries
decreases-decode_entries l = shape_size (shape_of l.shape.now) + 1

abbrev pub invariant-decode_fields-loop-at : goal.invariant-decode_fields-loop-at
invariant-decode_fields-loop-at l = record {
  reads : EachReads (PathsOf l.list) (path_before l.list l.from) (take l.at (fields (nodes_of l.fields))) (values_list l.values);
  come : IsBefore l.list l.level (nodes_of l.fields) l.from l.at l.place;
}

abbrev pub invariant-decode_entries-keys : goal.invariant-decode_entries-keys
invariant-decode_entries-keys l = record {
  stays : StaysBelow l.list (length (path_before l.list l.from)) l.from l.place;
  gathers : GathersEntries (kind_of l.kind) (shape_of l.shape) l.list (path_before l.list l.from) l.from l.place (pairs l.entries);
}

abbrev pub decreases-decode_entries-keys : goal.decreases-decode_entries-keys
decreases-decode_entries-keys l = length l.list - l.place
