use Rattle.std.proofs.Common.{◌≡◌, ◌<◌, ◌+◌, ◌-◌, length, take, get_or, suc, sym, ◌∙◌, ap, subst, arith}
use Rattle.field_table.specs.Ranges.{slots_in_ranges, AreSlotRanges}
use Rattle.field_table.proofs.SlotRanges.{slots_before_range, slots_upto_range}
use Rattle.field_table.proofs.views.SlotSet.len.Goals as goal

pub overflow_sub-absent : goal.overflow_sub-absent
overflow_sub-absent c =
    let ranges = c.deref-range-items.result.now in
    let are : AreSlotRanges ranges = subst AreSlotRanges (sym c.deref-range-items.ensures.value) c.self.invariant in
    let before = slots_before_range ranges c.loop-range.range-index (0, 0) are c.loop-range-test.true in
    omega (arith, c.loop-range.invariant, before)

pub overflow_sub-count : goal.overflow_sub-count
overflow_sub-count c =
    let ranges = c.deref-range-items.result.now in
    let at = c.loop-range.range-index in
    let are : AreSlotRanges ranges = subst AreSlotRanges (sym c.deref-range-items.ensures.value) c.self.invariant in
    let some : (get_or ranges at (0, 0)).0 < (get_or ranges at (0, 0)).1 = are.filled at (0, 0) c.loop-range-test.true in
    omega (arith, some)

pub loop-range-preserved : goal.loop-range-preserved
loop-range-preserved c =
    let ranges = c.deref-range-items.result.now in
    let at = c.loop-range.range-index in
    let are : AreSlotRanges ranges = subst AreSlotRanges (sym c.deref-range-items.ensures.value) c.self.invariant in
    let before = slots_before_range ranges at (0, 0) are c.loop-range-test.true in
    let some : (get_or ranges at (0, 0)).0 < (get_or ranges at (0, 0)).1 = are.filled at (0, 0) c.loop-range-test.true in
    let upto = slots_upto_range ranges at (0, 0) c.loop-range-test.true in
    let on : suc at ≡ at + 1 = omega arith in
    let sum : (get_or ranges at (0, 0)).1 - ((get_or ranges at (0, 0)).0 - c.loop-range.count) ≡ length (slots_in_ranges (take (suc at) ranges)) =
    omega (arith, c.loop-range.invariant, before, some, upto) in
    sum ∙ ap (λ end. length (slots_in_ranges (take end ranges))) on
