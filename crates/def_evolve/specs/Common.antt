-- The slots that two tables have in common.
use Rattle.std.specs.Prelude.{◌≡◌, ◌↔◌, ℕ, List, length}
use Rattle.std.specs.Ordering.{nat_cmp}
use Rattle.std.specs.Cmp.Lexicographic.{slice_cmp}
use Rattle.context_model.specs.Orders.{IsIn, Rises}
use Rattle.bag_model.specs.Shapes.{Shape}
use Rattle.bag_model.specs.Slots.{SlotAt, slots_in}

-- From a field of this shape these numbers lead to a slot.
abbrev pub IsSlotPath : Shape → List ℕ → Type 0
IsSlotPath shape numbers = (at : SlotAt) × IsIn at (slots_in shape) × (at.numbers ≡ numbers)

-- The numbers that lead to a slot from both fields, each once.
pub record AreCommonPaths (old new : Shape) (paths : List (List ℕ)) : Type 0 where
  pub rises : Rises (slice_cmp nat_cmp) paths
  pub each : (numbers : List ℕ)
      → IsIn numbers paths ↔ (IsSlotPath old numbers × IsSlotPath new numbers)

-- The number is that of the slots that two fields have in common.
abbrev pub IsCommonCount : Shape → Shape → ℕ → Type 0
IsCommonCount old new common =
    (paths : List (List ℕ)) × AreCommonPaths old new paths × (common ≡ length paths)
