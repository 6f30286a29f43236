-- What is read of a slot.
use Rattle.std.specs.Prelude.{◌≡◌, ◌↔◌, ℕ, List}
use Rattle.context_model.specs.Atoms.{Atom}
use Rattle.context_model.specs.Ended.{IsEnded, field_path}
use Rattle.bag_model.specs.Shapes.{Nodes}
use Rattle.bag_model.specs.Slots.{SlotAt}
use Rattle.bag_model.specs.SlotValues.{HasSlot}
use Rattle.bag_value.specs.Vals.{plain}
use Rattle.bag_decode.specs.Slots.{SaysAt}
use Rattle.bag_scan.specs.declared.states.State.TheVariants.{Exact}
use Rattle.accessor_gen.specs.declared.access.Reading.{Reading}

-- The reading has the value that the list says of the slot with this place, and is exact exactly
-- where the slot is ended.
pub record IsReadingOf (nodes : Nodes) (list : List Atom) (slot : ℕ)
    (reading : Reading) : Type 0 where
  pub state : (at : SlotAt) → HasSlot nodes slot at
      → (reading.state ≡ Exact) ↔ IsEnded list (field_path at.numbers)
  pub value : SaysAt nodes list slot (plain reading.value)
