use Rattle.std.proofs.Common.{◌≡◌, ◌+◌, take}
use Rattle.context_model.specs.Paths.{path_before}
use Rattle.bag_model.specs.Shapes.{fields}
use Rattle.bag_model.specs.Sizes.{shape_size, nodes_size}
use Rattle.bag_model.specs.Slots.{starts}
use Rattle.bag_model.proofs.SlotLaws.{slots_list}
use Rattle.bag_scan.proofs.FieldTurns.{IsBefore}
use Rattle.field_table.specs.Plain.{nodes_of, shape_of}
use Rattle.place_calls.specs.Found.{PutsPlacesOf}
use Rattle.place_calls.proofs.found.Searched.+there.Given as goal

abbrev pub decreases-put_field : goal.decreases-put_field
decreases-put_field l = shape_size (shape_of l.shape.now)

abbrev pub decreases-put_fields : goal.decreases-put_fields
decreases-put_fields l = nodes_size (nodes_of l.fields.now)

abbrev pub invariant-put_fields-loop-at : goal.invariant-put_fields-loop-at
invariant-put_fields-loop-at l = record {
  places : PutsPlacesOf l.self (slots_list (take l.at (fields (nodes_of l.fields)))) (path_before l.self.list.now l.from) l.slot l.fn.places l.places;
  before : IsBefore l.self.list.now l.level (nodes_of l.fields) l.from l.at l.place;
  count : l.next ≡ l.slot + starts (fields (nodes_of l.fields)) l.at;
}
