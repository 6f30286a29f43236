use Rattle.std.proofs.Common.{◌<◌, ◌+◌, [], ◌∷◌, length, map, sym, ap, ◌∙◌, subst, arith}
use Rattle.std.proofs.lemmas.List.{map-append}
use Rattle.std.proofs.lemmas.Option.{slice_get_read}
use Rattle.bag_model.specs.Slots.{slots_of}
use Rattle.bag_value.specs.Vals.{plain}
use Rattle.serde_json.specs.View.{view}
use Rattle.context_json.specs.Objects.{AreInPlace, IsSlotObject}
use Rattle.context_json.proofs.Placed.{one_placed}
use Rattle.report_text.proofs.SlotLines.{as_many, span_there}
use Rattle.context_json.proofs.SlotObjects.{value_fits, object_shown}
use Rattle.context_json.proofs.objects.slots_json.Goals as goal

pub index-span-requires : goal.index-span-requires
index-span-requires c =
    omega (arith, as_many c.args.table.now c.args.context.now c.in_ok-spans.spans.items c.in_ok-spans.ensures, c.loop-slot-test.true, c.slots-slot-end.ensures)

pub slot_value-requires-clause-span : goal.slot_value-requires-clause-span
slot_value-requires-clause-span c =
    let within : c.loop-slot.slot < length (slots_of c.args.table.now) = omega (arith, c.loop-slot-test.true, c.slots-slot-end.ensures) in
    let many = as_many c.args.table.now c.args.context.now c.in_ok-spans.spans.items c.in_ok-spans.ensures in
    span_there c.args.table.now c.args.context.now c.in_ok-spans.spans.items c.loop-slot.slot c.index-span.result.now c.in_ok-spans.ensures
    (slice_get_read c.in_ok-spans.spans.items (length (slots_of c.args.table.now)) c.loop-slot.slot c.index-span.result.now (sym many) within c.index-span.ensures)

pub slot_json-requires-clause-value : goal.slot_json-requires-clause-value
slot_json-requires-clause-value c = value_fits c.args.table.now c.args.context.now c.loop-slot.slot (plain c.in_ok-value.value) c.in_ok-value.ensures

pub loop-slot-preserved : goal.loop-slot-preserved
loop-slot-preserved c =
    let table = c.args.table.now in
    let list = c.args.context.now in
    let spans = c.in_ok-spans.spans.items in
    let slot = c.loop-slot.slot in
    let span = c.index-span.result.now in
    let d = view c.in_ok-slot_json.field-0 in
    let within : slot < length (slots_of table) = omega (arith, c.loop-slot-test.true, c.slots-slot-end.ensures) in
    let many = as_many table list spans c.in_ok-spans.ensures in
    let its = span_there table list spans slot span c.in_ok-spans.ensures (slice_get_read spans (length (slots_of table)) slot span (sym many) within c.index-span.ensures) in
    let right = object_shown table list slot c.first_marker-marker.result span c.state.result (plain c.in_ok-value.value) d c.in_ok-value.ensures
    c.first_marker-marker.ensures.well_formed c.first_marker-marker.ensures.marker its c.state.ensures c.in_ok-slot_json.ensures in
    subst (AreInPlace (slot + 1) (IsSlotObject table list))
    (sym (ap (map view) c.in_ok-push.ensures.items ∙ map-append view c.loop-slot.fields.items (c.in_ok-slot_json.field-0 ∷ [])))
    (one_placed (IsSlotObject table list) slot (map view c.loop-slot.fields.items) d c.loop-slot.invariant right)
