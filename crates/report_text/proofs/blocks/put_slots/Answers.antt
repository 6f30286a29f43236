use Rattle.std.proofs.Common.{◌≡◌, ◌<◌, length, sym, subst, arith}
use Rattle.std.proofs.lemmas.Option.{slice_get_read}
use Rattle.bag_model.specs.Slots.{slots_of}
use Rattle.bag_value.specs.Vals.{plain}
use Rattle.report_text.specs.Blocks.{slot_line, AddsSlotLines}
use Rattle.report_text.proofs.Grown.{appended, further, refused}
use Rattle.report_text.proofs.SlotLines.{no_lines, one_more, span_there, line_shown, as_many}
use Rattle.report_text.proofs.blocks.put_slots.Goals as goal

pub index-span-requires : goal.index-span-requires
index-span-requires c =
    omega (arith, as_many c.args.table.now c.args.context.now c.in_ok-spans.spans.items c.in_ok-spans.ensures, c.loop-slot-test.true, c.slots-slot-end.ensures)

pub slot_value-requires : goal.slot_value-requires
slot_value-requires c =
    let within : c.loop-slot.slot < length (slots_of c.args.table.now) = omega (arith, c.loop-slot-test.true, c.slots-slot-end.ensures) in
    let many = as_many c.args.table.now c.args.context.now c.in_ok-spans.spans.items c.in_ok-spans.ensures in
    record {
      typed = c.requires;
      slot = within;
      span = span_there c.args.table.now c.args.context.now c.in_ok-spans.spans.items c.loop-slot.slot c.index-span.result.now c.in_ok-spans.ensures
          (slice_get_read c.in_ok-spans.spans.items (length (slots_of c.args.table.now)) c.loop-slot.slot c.index-span.result.now (sym many) within c.index-span.ensures);
    }

pub loop-slot-init : goal.loop-slot-init
loop-slot-init c = no_lines c.args.table.now c.args.context.now c.args.into.now.items

pub loop-slot-preserved : goal.loop-slot-preserved
loop-slot-preserved c =
    let table = c.args.table.now in
    let list = c.args.context.now in
    let spans = c.in_ok-spans.spans.items in
    let slot = c.loop-slot.slot in
    let span = c.index-span.result.now in
    let value = plain c.in_ok-value.value in
    let says = c.in_ok-value.ensures in
    let within : slot < length (slots_of table) = omega (arith, c.loop-slot-test.true, c.slots-slot-end.ensures) in
    let many = as_many table list spans c.in_ok-spans.ensures in
    let its = span_there table list spans slot span c.in_ok-spans.ensures (slice_get_read spans (length (slots_of table)) slot span (sym many) within c.index-span.ensures) in
    one_more table list slot c.args.into.now.items c.loop-slot.into.items c.put_slot.new.into.items (slot_line says.0 c.state.result value) c.loop-slot.invariant
    (c.in_ok-put_slot.ensures.ok says.0 says.1)
    (line_shown table list slot c.first_marker-marker.result span c.state.result value says c.first_marker-marker.ensures.well_formed c.first_marker-marker.ensures.marker its c.state.ensures)

pub returns-clause-ok : goal.returns-clause-ok
returns-clause-ok c =
    let all : c.loop-slot.slot ≡ length (slots_of c.args.table.now) = omega (arith, c.loop-slot-test.false, c.loop-slot.auto.slot-end, c.slots-slot-end.ensures) in
    subst (λ n. AddsSlotLines c.args.table.now c.args.context.now n c.args.into.now.items c.loop-slot.into.items) all c.loop-slot.invariant

pub returns-in_err-put_slot-clause-err : goal.returns-in_err-put_slot-clause-err
returns-in_err-put_slot-clause-err c =
    refused c.from_residual-in_err-put_slot.result (further _ _ _ (appended _ _ c.loop-slot.invariant.0 c.loop-slot.invariant.1) c.in_err-put_slot.ensures.err)
