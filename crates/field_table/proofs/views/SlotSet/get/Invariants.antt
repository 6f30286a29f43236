use Rattle.std.proofs.Common.{◌≡◌, drop}
use Rattle.std.specs.List.{slice_get}
use Rattle.field_table.specs.Ranges.{slots_in_ranges}
use Rattle.field_table.proofs.views.SlotSet.get.Given as goal

abbrev pub invariant-loop-range : goal.invariant-loop-range
invariant-loop-range l = slice_get l.self l.place ≡ slice_get (slots_in_ranges (drop l.range-index l.range-items)) l.rest
