use Rattle.std.proofs.Common.{◌≡◌, ◌+◌, ◌-◌, drop, get_or, suc, sym, ◌∙◌, ap, arith}
use Rattle.std.specs.List.{slice_get}
use Rattle.field_table.specs.Ranges.{slots_in_ranges}
use Rattle.field_table.proofs.SlotRanges.{at_in_range, at_after_range}
use Rattle.field_table.proofs.views.SlotSet.get.Goals as goal

pub returns-then-rest-count : goal.returns-then-rest-count
returns-then-rest-count c =
    let ranges = c.deref-range-items.result.now in
    sym (c.loop-range.invariant ∙ at_in_range ranges c.loop-range.range-index c.loop-range.rest (0, 0) c.loop-range-test.true c.if-rest-count.true)

pub loop-range-preserved : goal.loop-range-preserved
loop-range-preserved c =
    let ranges = c.deref-range-items.result.now in
    let at = c.loop-range.range-index in
    let rest = c.loop-range.rest in
    let range = get_or ranges at (0, 0) in
    let on : suc at ≡ at + 1 = omega arith in
    c.loop-range.invariant ∙ at_after_range ranges at rest (0, 0) c.loop-range-test.true c.if-rest-count.false
    ∙ ap (λ upto. slice_get (slots_in_ranges (drop upto ranges)) (rest - (range.1 - range.0))) on
