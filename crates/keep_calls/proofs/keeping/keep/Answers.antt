use Rattle.std.proofs.Common.{◌≡◌, ◌<◌, ◌≤◌, List, length, sym, ap, subst, arith}
use Rattle.std.proofs.lemmas.Result.{IfOk-weaker}
use Rattle.context_model.specs.Atoms.{Atom}
use Rattle.context_model.specs.Merged.{IsMerged}
use Rattle.context_model.specs.WellFormed.{IsWellFormed}
use Rattle.bag_model.specs.Slots.{slots_of}
use Rattle.bag_scan.specs.declared.spans.Span.{Span}
use Rattle.keep_calls.specs.Kept.{IsKeptOf}
use Rattle.keep_calls.specs.Walk.{IsGapStart, IsGapPart, HoldUpTo}
use Rattle.keep_calls.proofs.SlotSteps.{spans_count, span_there, next_gap}
use Rattle.keep_calls.proofs.Steps.{gap_last, merged_kept}
use Rattle.keep_calls.proofs.keeping.keep.Goals as goal

pub add_slot-requires-clause-slot : goal.add_slot-requires-clause-slot
add_slot-requires-clause-slot c =
    let count = spans_count c.args.context.now (slots_of c.args.table.now) c.in_ok-spans.spans.items c.in_ok-spans.ensures in
    let same : length c.deref-span-items.result.now ≡ length c.in_ok-spans.spans.items = ap (λ (l : List Span). length l) c.deref-span-items.ensures.value in
    omega (arith, c.loop-slot-test.true, count, same)

pub add_slot-requires-clause-span : goal.add_slot-requires-clause-span
add_slot-requires-clause-span c =
    span_there c.list-list.result.now c.args.context.now (slots_of c.args.table.now) c.deref-span-items.result.now c.in_ok-spans.spans.items c.loop-slot.slot _ c.list-list.ensures.list c.deref-span-items.ensures.value c.in_ok-spans.ensures

pub add_slot-requires-clause-held : goal.add_slot-requires-clause-held
add_slot-requires-clause-held c = c.loop-slot.invariant.held

pub loop-slot-preserved : goal.loop-slot-preserved
loop-slot-preserved c =
    let count = spans_count c.args.context.now (slots_of c.args.table.now) c.in_ok-spans.spans.items c.in_ok-spans.ensures in
    let same : length c.deref-span-items.result.now ≡ length c.in_ok-spans.spans.items = ap (λ (l : List Span). length l) c.deref-span-items.ensures.value in
    let less : c.loop-slot.slot < length (slots_of c.args.table.now) = omega (arith, c.loop-slot-test.true, count, same) in
    record {
      starts = next_gap c.args.table.now c.nodes.ensures.table c.list-list.result.now (subst IsWellFormed (sym c.list-list.ensures.list) c.list-list.ensures.well_formed) c.loop-slot.slot less c.loop-slot.from c.loop-slot.invariant.starts _ _
          (span_there c.list-list.result.now c.args.context.now (slots_of c.args.table.now) c.deref-span-items.result.now c.in_ok-spans.spans.items c.loop-slot.slot _ c.list-list.ensures.list c.deref-span-items.ensures.value c.in_ok-spans.ensures);
      held = c.in_ok-add_slot.ensures;
    }

pub add_gap-requires-clause-gap : goal.add_gap-requires-clause-gap
add_gap-requires-clause-gap c =
    let list = c.list-list.result.now in
    let count = spans_count c.args.context.now (slots_of c.args.table.now) c.in_ok-spans.spans.items c.in_ok-spans.ensures in
    let same : length c.deref-span-items.result.now ≡ length c.in_ok-spans.spans.items = ap (λ (l : List Span). length l) c.deref-span-items.ensures.value in
    let all : c.loop-slot.slot ≡ c.len.result = omega (arith, c.loop-slot-test.false, c.loop-slot.auto.slot-end, c.len.ensures, c.deref-span-items.ensures.len, same) in
    let whole : length (slots_of c.args.table.now) ≤ c.len.result = omega (arith, all, c.loop-slot-test.false, count, same) in
    let start = subst (λ n. IsGapStart c.args.table.now list n c.loop-slot.from) all c.loop-slot.invariant.starts in
    subst (IsGapPart c.args.table.now list c.len.result c.loop-slot.from) (sym c.len-2.ensures.len)
    (gap_last c.args.table.now c.nodes.ensures.table list (subst IsWellFormed (sym c.list-list.ensures.list) c.list-list.ensures.well_formed) c.len.result c.loop-slot.from whole start)

pub add_gap-requires-clause-slot : goal.add_gap-requires-clause-slot
add_gap-requires-clause-slot c =
    let count = spans_count c.args.context.now (slots_of c.args.table.now) c.in_ok-spans.spans.items c.in_ok-spans.ensures in
    let same : length c.deref-span-items.result.now ≡ length c.in_ok-spans.spans.items = ap (λ (l : List Span). length l) c.deref-span-items.ensures.value in
    omega (arith, c.loop-slot.auto.slot-end, c.loop-slot-test.false, c.len.ensures, c.deref-span-items.ensures.len, same, count)

pub returns : goal.returns
returns c =
    let list = c.list-list.result.now in
    let pieces = c.add_gap.new.pieces.items in
    let held : HoldUpTo c.args.table.now c.args.others list (length list) pieces = subst (λ n. HoldUpTo c.args.table.now c.args.others list n pieces) c.len-2.ensures.len c.in_ok-add_gap.ensures in
    let there : HoldUpTo c.args.table.now c.args.others c.args.context.now (length c.args.context.now) pieces =
    subst (λ (l : List Atom). HoldUpTo c.args.table.now c.args.others l (length l) pieces) c.list-list.ensures.list held in
    IfOk-weaker c.merge_many.result (IsMerged pieces) (IsKeptOf c.args.table.now c.args.others c.args.context.now)
    (λ kept merged. merged_kept c.args.table.now c.args.others c.args.context.now kept pieces there merged) c.merge_many.ensures.merged
