-- Tables that have some slots of another one.
use Rattle.std.specs.Prelude.{◌≡◌, ℕ}
use Rattle.bag_model.specs.Shapes.{Nodes}
use Rattle.bag_model.specs.Slots.{SlotAt}
use Rattle.bag_model.specs.SlotValues.{HasSlot}
use Rattle.bag_model.specs.Views.{View, Knows}

-- Two slots have the same numbers and the same shape. Names don't matter.
pub record AreLikeSlots (a b : SlotAt) : Type 0 where
  pub numbers : a.numbers ≡ b.numbers
  pub shape : a.shape ≡ b.shape

-- Some slot of the table that the view knows is like this one.
abbrev pub IsKnown : Nodes → View → SlotAt → Type 0
IsKnown nodes view other =
    (slot : ℕ) × (at : SlotAt) × Knows view slot × HasSlot nodes slot at × AreLikeSlots at other

-- Some slot of the excerpt is like this one.
abbrev pub IsKnownAlike : Nodes → SlotAt → Type 0
IsKnownAlike excerpt at =
    (other : ℕ) × (also : SlotAt) × HasSlot excerpt other also × AreLikeSlots at also

-- The excerpt has the slots of the table that the view knows, by numbers and shapes, and no others.
-- Their places, and what they are called, don't matter.
pub record IsExcerpt (nodes : Nodes) (view : View) (excerpt : Nodes) : Type 0 where
  pub whole : (slot : ℕ) (at : SlotAt) → Knows view slot → HasSlot nodes slot at
      → IsKnownAlike excerpt at
  pub only : (other : ℕ) (also : SlotAt) → HasSlot excerpt other also → IsKnown nodes view also
