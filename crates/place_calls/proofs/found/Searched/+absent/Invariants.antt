use Rattle.std.proofs.Common.{◌≡◌, ◌+◌, take}
use Rattle.context_model.specs.Orders.{Path}
use Rattle.bag_model.specs.Shapes.{fields}
use Rattle.bag_model.specs.Sizes.{shape_size, nodes_size}
use Rattle.bag_model.specs.Slots.{starts}
use Rattle.bag_model.proofs.SlotLaws.{slots_list}
use Rattle.field_table.specs.Plain.{nodes_of, shape_of}
use Rattle.place_calls.specs.Found.{IsAbsentAt, PutsPlacesOf}
use Rattle.place_calls.proofs.found.Searched.+absent.Given as goal

abbrev pub decreases-put_absent : goal.decreases-put_absent
decreases-put_absent l = shape_size (shape_of l.shape.now)

abbrev pub decreases-put_absent_fields : goal.decreases-put_absent_fields
decreases-put_absent_fields l = nodes_size (nodes_of l.fields.now)

abbrev pub invariant-put_absent_fields-loop-at : goal.invariant-put_absent_fields-loop-at
invariant-put_absent_fields-loop-at l = record {
  places : (q : Path) → IsAbsentAt l.self.list.now q l.stop → PutsPlacesOf l.self (slots_list (take l.at (fields (nodes_of l.fields)))) q l.slot l.fn.places l.places;
  count : l.next ≡ l.slot + starts (fields (nodes_of l.fields)) l.at;
}
