use Rattle.std.proofs.Common.{◌↔◌, ◌+◌, map, drop}
use Rattle.context_model.specs.KeyedMerge.{EachPair}
use Rattle.bag_model.specs.Shapes.{fields}
use Rattle.bag_model.specs.Sizes.{shape_size, nodes_size}
use Rattle.bag_model.specs.Values.{pairs, values_list}
use Rattle.bag_value.specs.Vals.{pair_of}
use Rattle.field_table.specs.Plain.{nodes_of, shape_of}
use Rattle.scalar_types.specs.KindViews.{kind_of}
use Rattle.bag_codec.specs.Encodable.{AreEncodable}
use Rattle.bag_codec.proofs.Parts.{AreEach, IsEntry}
use Rattle.bag_codec.proofs.encodable.+encodable.Given as goal

abbrev pub decreases-is_encodable : goal.decreases-is_encodable
decreases-is_encodable l = shape_size (shape_of l.shape.now)

abbrev pub decreases-entries_fit : goal.decreases-entries_fit
decreases-entries_fit l = shape_size (shape_of l.shape.now) + 1

abbrev pub decreases-fields_fit : goal.decreases-fields_fit
decreases-fields_fit l = nodes_size (nodes_of l.fields.now)

abbrev pub invariant-entries_fit-loop-entry : goal.invariant-entries_fit-loop-entry
invariant-entries_fit-loop-entry l =
    EachPair (IsEntry (kind_of l.kind) (shape_of l.shape)) (pairs l.entries)
    ↔ EachPair (IsEntry (kind_of l.kind) (shape_of l.shape)) (map pair_of (drop l.entry-index l.entry-items))

abbrev pub invariant-fields_fit-loop-at : goal.invariant-fields_fit-loop-at
invariant-fields_fit-loop-at l =
    AreEncodable (nodes_of l.fields) l.values
    ↔ AreEach (drop l.at (fields (nodes_of l.fields))) (drop l.at (values_list l.values))
