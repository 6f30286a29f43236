use Rattle.std.proofs.Common.{◌≡◌, length, take}
use Rattle.field_table.specs.Ranges.{slots_in_ranges}
use Rattle.field_table.proofs.views.SlotSet.len.Given as goal

abbrev pub invariant-loop-range : goal.invariant-loop-range
invariant-loop-range l = l.count ≡ length (slots_in_ranges (take l.range-index l.range-items))
