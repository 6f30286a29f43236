-- The parts of slots, and the bytes where they are.
use Rattle.std.specs.Prelude.{◌≡◌, ℕ, ◌+◌, List, [], Option, Some, None, slice_range}
use Rattle.context_model.specs.Atoms.{Atom}
use Rattle.context_model.specs.ContextFault.{IsContextOf}
use Rattle.context_model.specs.Ended.{field_path}
use Rattle.context_model.specs.Framing.{form_of, frames}
use Rattle.bag_model.specs.Slots.{SlotAt}
use Rattle.bag_walks.specs.Slots.{IsSpanOf}
use Rattle.place_calls.specs.declared.places.Place.{Place}
use Rattle.place_calls.specs.Places.{IsTypedPlace}

-- The part of a slot with this span: the atoms after its header and before the first one beyond the
-- slot, or none where there is no header.
abbrev pub part_of : List Atom → Option ℕ → ℕ → List Atom
part_of list (Some from) stop = slice_range list from stop
part_of list None stop = []

-- The bytes at the place are the frames of the slot's part, in the form of all bytes.
pub record HoldsFrames (bytes : List ℕ) (list : List Atom) (at : SlotAt)
    (place : Place) : Type 0 where
  pub from : Option ℕ
  pub stop : ℕ
  pub span : IsSpanOf list (field_path at.numbers) from stop
  pub frames : slice_range bytes place.offset (place.offset + place.length)
      ≡ frames (form_of bytes) (part_of list from stop)

-- The place of a slot that isn't ill typed holds the frames of its part.
abbrev pub PlacesHoldFrames : Type 0
PlacesHoldFrames = (bytes : List ℕ) (list : List Atom) (at : SlotAt) (place : Place)
    → IsContextOf list bytes → IsTypedPlace (form_of bytes) list at place
    → HoldsFrames bytes list at place
