-- Slot numbers in ranges.
use Rattle.std.specs.Prelude.{ℕ, ◌-◌, ◌<◌, List, All}
use Rattle.std.specs.List.{flat_map, range_with_len}
use Rattle.std.specs.Ordering.{nat_cmp}
use Rattle.context_model.specs.Orders.{Rises}

-- The slots from the first number on, up to but not the second.
abbrev pub slots_between : ℕ → ℕ → List ℕ
slots_between first end = range_with_len first (end - first)

-- The slots in the ranges, one range after the other.
abbrev pub slots_in_ranges : List (ℕ × ℕ) → List ℕ
slots_in_ranges ranges = flat_map (λ range. slots_between range.0 range.1) ranges

-- The slots in the ranges rise, and no range is empty.
pub record AreSlotRanges (ranges : List (ℕ × ℕ)) : Type 0 where
  pub rises : Rises nat_cmp (slots_in_ranges ranges)
  pub filled : All (λ range. range.0 < range.1) ranges
