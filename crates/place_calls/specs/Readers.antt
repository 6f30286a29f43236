-- What readers of parts say: readers that are generated in other languages, which see only the part
-- of a slot.
use Rattle.std.specs.Prelude.{◌≡◌, ◌↔◌, ℕ, ◌+◌, List, length, Option, slice_range}
use Rattle.context_model.specs.Atoms.{Atom}
use Rattle.context_model.specs.ContextFault.{IsContextOf}
use Rattle.context_model.specs.Ended.{field_path}
use Rattle.context_model.specs.Framing.{form_of, frames}
use Rattle.bag_model.specs.Readings.{PathsOf}
use Rattle.bag_model.specs.Shapes.{Nodes}
use Rattle.bag_model.specs.Slots.{SlotAt}
use Rattle.bag_model.specs.SlotValues.{HasSlot, SaysSlot}
use Rattle.bag_model.specs.Tables.{IsTable}
use Rattle.bag_model.specs.Typed.{IsTyped}
use Rattle.bag_model.specs.Values.{Value}
use Rattle.bag_walks.specs.Slots.{IsSpanOf}
use Rattle.place_calls.specs.declared.places.Place.{Place}
use Rattle.place_calls.specs.Places.{IsTypedPlace}
use Rattle.place_calls.specs.Parts.{part_of}
use Rattle.place_calls.specs.Telling.{Tells}

-- The part tells exactly what the list says of the slot, and it tells something.
pub record TellsSlot (list : List Atom) (at : SlotAt) (part : List Atom) : Type 0 where
  pub same : (v : Value) → Tells at.shape (length at.numbers) part v ↔ SaysSlot list at v
  pub some : (v : Value) × Tells at.shape (length at.numbers) part v

-- The part of a typed slot of a table tells what the list says of the slot. So a reader that
-- follows `Tells` reads what the context says.
abbrev pub PartsTellValues : Type 0
PartsTellValues =
    (nodes : Nodes) (list : List Atom) (slot : ℕ) (at : SlotAt) (from : Option ℕ) (stop : ℕ)
    → IsTable nodes → HasSlot nodes slot at
    → IsTyped at.shape (PathsOf list) (field_path at.numbers)
    → IsSpanOf list (field_path at.numbers) from stop
    → TellsSlot list at (part_of list from stop)

-- The bytes at the place are the frames of a part that tells what the list says of the slot.
pub record HoldsToldPart (bytes : List ℕ) (list : List Atom) (at : SlotAt)
    (place : Place) : Type 0 where
  pub part : List Atom
  pub frames : slice_range bytes place.offset (place.offset + place.length)
      ≡ frames (form_of bytes) part
  pub tells : TellsSlot list at part

-- The place of each slot of a table that isn't ill typed in a context has a part that tells what
-- the context says of the slot.
abbrev pub PlacesTellValues : Type 0
PlacesTellValues =
    (nodes : Nodes) (bytes : List ℕ) (list : List Atom) (slot : ℕ) (at : SlotAt) (place : Place)
    → IsTable nodes → HasSlot nodes slot at → IsContextOf list bytes
    → IsTypedPlace (form_of bytes) list at place
    → HoldsToldPart bytes list at place
