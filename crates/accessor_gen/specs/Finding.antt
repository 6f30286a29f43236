-- The accessors of a table's slots.
use Rattle.std.specs.Prelude.{◌≡◌, ℕ, List, length, Option, Some, None}
use Rattle.std.specs.List.{slice_get}
use Rattle.bag_model.specs.Shapes.{Nodes}
use Rattle.bag_model.specs.Slots.{SlotAt, slots_of, name_path, FindsSlot}
use Rattle.bag_model.specs.SlotValues.{HasSlot}
use Rattle.accessor_gen.specs.declared.access.Accessor.{Accessor}

-- The accessor has the number of a slot of the table, and the slot's name path.
abbrev pub IsAccessorOf : Nodes → Accessor → Type 0
IsAccessorOf nodes accessor =
    (at : SlotAt) × HasSlot nodes accessor.slot at × (accessor.name ≡ name_path at)

-- There is an accessor for each slot of the table, in the order of the slots.
pub record AreAccessors (nodes : Nodes) (accessors : List Accessor) : Type 0 where
  pub count : length accessors ≡ length (slots_of nodes)
  pub each : (place : ℕ) (accessor : Accessor) → slice_get accessors place ≡ Some accessor
      → (accessor.slot ≡ place) × IsAccessorOf nodes accessor

-- The accessor of the one slot with this name path, or none where no slot has it.
abbrev pub FindsAccessor : Nodes → List ℕ → Option Accessor → Type 0
FindsAccessor nodes path (Some accessor) =
    IsAccessorOf nodes accessor × (accessor.name ≡ path)
    × ((other : ℕ) (at : SlotAt) → HasSlot nodes other at → name_path at ≡ path
    → other ≡ accessor.slot)
FindsAccessor nodes path None = FindsSlot nodes path None
