-- Which values may be written at a slot.
use Rattle.std.specs.Prelude.{ℕ}
use Rattle.bag_model.specs.Encodings.{FitsAtoms}
use Rattle.bag_model.specs.Shapes.{Nodes}
use Rattle.bag_model.specs.Slots.{SlotAt}
use Rattle.bag_model.specs.SlotValues.{HasSlot, only}
use Rattle.bag_model.specs.Values.{Value}
use Rattle.bag_walks.specs.SlotFits.{FitsAnywhere}

-- A value that fits anywhere fits at a slot of its shape, with bottom at all others.
abbrev pub ValuesFitAtSlots : Type 0
ValuesFitAtSlots =
    (nodes : Nodes) (slot : ℕ) (at : SlotAt) (v : Value) → HasSlot nodes slot at
    → FitsAnywhere at.shape v → FitsAtoms nodes (only nodes slot v)
