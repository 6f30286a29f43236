-- Where the slots of a table are in the bytes of a context.
use Rattle.std.specs.Prelude.{◌≡◌, ◌⊎◌, ℕ, ◌+◌, ◌<◌, ◌≤◌, List, [], ◌∷◌, ◌++◌, length, drop, Option, Some, None, Result, Ok, Err}
use Rattle.context_model.specs.declared.Form.{Form}
use Rattle.context_model.specs.Atoms.{Atom}
use Rattle.context_model.specs.ContextFault.{IsContextOf, IsFirstContextFault}
use Rattle.context_model.specs.Ended.{IsEnded, field_path}
use Rattle.context_model.specs.Framing.{form_of, offset_of}
use Rattle.bag_model.specs.Readings.{PathsOf}
use Rattle.bag_model.specs.Shapes.{Nodes}
use Rattle.bag_model.specs.Slots.{SlotAt, slots_of}
use Rattle.bag_model.specs.SlotValues.{HasSlot}
use Rattle.bag_model.specs.Tables.{IsTable}
use Rattle.bag_model.specs.Typed.{IsTyped, Misspells}
use Rattle.bag_walks.specs.Slots.{IsSpanOf}
use Rattle.bag_scan.specs.declared.states.State.{State}
use Rattle.bag_scan.specs.declared.states.State.TheVariants.{Exact, Partial}
use Rattle.bag_typed.specs.Walk.{IsFirstOfPaths}
use Rattle.table_text.specs.Reading.{IsTableFault}
use Rattle.wire_bytes.specs.Reading.{byte_code_of}
use Rattle.field_calls.specs.Fields.{IsPrintedTable}
use Rattle.place_calls.specs.declared.places.TheConstants.{EXACT, PARTIAL, ILL_TYPED}
use Rattle.place_calls.specs.declared.places.Place.{Place}
use Rattle.place_calls.specs.declared.refusals.PlaceRefusal.{PlaceRefusal}
use Rattle.place_calls.specs.declared.refusals.PlaceRefusal.TheVariants.{Table, NoSlot, Fault, Memory, Room}

-- The number of a state.
abbrev pub place_state : State → ℕ
place_state Exact = EXACT
place_state Partial = PARTIAL

-- Some atom of the slot isn't spelled as its type says. As many bytes as the offset says come
-- before the first such atom.
pub record IsIllTypedPlace (form : Form) (list : List Atom) (at : SlotAt)
    (place : Place) : Type 0 where
  pub first : ℕ
  pub misspelled : IsFirstOfPaths list (Misspells at.shape (field_path at.numbers)) first
  pub offset : place.offset ≡ offset_of form list first
  pub length : place.length ≡ 0
  pub state : place.state ≡ ILL_TYPED

-- The bytes begin right after the slot's header and end before the first atom beyond the slot.
-- Without a header there are none, and their place is right before the first atom beyond the slot.
abbrev pub HasBytesOf : Form → List Atom → Option ℕ → ℕ → Place → Type 0
HasBytesOf form list (Some from) stop place =
    (place.offset ≡ offset_of form list from)
    × (place.offset + place.length ≡ offset_of form list stop)
HasBytesOf form list None stop place =
    (place.offset ≡ offset_of form list stop) × (place.length ≡ 0)

-- The state says whether the list is ended at the slot.
abbrev pub SaysWhetherEnded : List Atom → SlotAt → ℕ → Type 0
SaysWhetherEnded list at state =
    ((state ≡ EXACT) × IsEnded list (field_path at.numbers))
    ⊎ ((state ≡ PARTIAL) × ¬ (IsEnded list (field_path at.numbers)))

-- Each atom of the slot is spelled as its type says.
pub record IsTypedPlace (form : Form) (list : List Atom) (at : SlotAt)
    (place : Place) : Type 0 where
  pub typed : IsTyped at.shape (PathsOf list) (field_path at.numbers)
  pub from : Option ℕ
  pub stop : ℕ
  pub span : IsSpanOf list (field_path at.numbers) from stop
  pub bytes : HasBytesOf form list from stop place
  pub state : SaysWhetherEnded list at place.state

-- The place is that of the slot in the bytes of the list in this form.
abbrev pub IsPlaceInBytes : Form → List Atom → SlotAt → Place → Type 0
IsPlaceInBytes form list at place =
    (place.zero ≡ 0) × (IsIllTypedPlace form list at place ⊎ IsTypedPlace form list at place)

-- The places are those of these slots, one by one.
abbrev pub ArePlacesInBytes : Form → List Atom → List SlotAt → List Place → Type 0
ArePlacesInBytes form list [] [] = Unit {0}
ArePlacesInBytes form list [] (place ∷ places) = ⊥
ArePlacesInBytes form list (at ∷ slots) [] = ⊥
ArePlacesInBytes form list (at ∷ slots) (place ∷ places) =
    IsPlaceInBytes form list at place × ArePlacesInBytes form list slots places

-- The array has room for the places of these slots, whose number is `size`: it begins with them,
-- and goes on as before.
pub record HoldsPlaces (form : Form) (list : List Atom) (slots : List SlotAt) (size : ℕ)
    (old new : List Place) : Type 0 where
  pub found : List Place
  pub places : ArePlacesInBytes form list slots found
  pub count : size ≡ length slots
  pub fits : size ≤ length old
  pub stands : new ≡ found ++ drop size old

-- The array has no room for the places of these slots, whose number is `size`, and is as before.
abbrev pub IsTooFewFor : List SlotAt → ℕ → List Place → List Place → Type 0
IsTooFewFor slots size old new = (size ≡ length slots) × (length old < size) × (new ≡ old)

-- The places of all slots are at the beginning of the array, or it has no room for them, or there
-- is no memory.
abbrev pub PutsPlaces : Form → Nodes → List Atom → List Place → List Place → Result ℕ PlaceRefusal
    → Type 0
PutsPlaces form nodes list old new (Ok count) = HoldsPlaces form list (slots_of nodes) count old new
PutsPlaces form nodes list old new (Err (Room size)) = IsTooFewFor (slots_of nodes) size old new
PutsPlaces form nodes list old new (Err Memory) = new ≡ old
PutsPlaces form nodes list old new (Err other) = ⊥

-- The text is that of a table, the bytes are those of a context, and the places of the table's
-- slots in these bytes are at the beginning of the array; the answer is the form of the bytes and
-- the number of slots. Or the array has no room for them. Or the text has this first fault; or it
-- is that of a table, and the bytes have this first fault; and the array is as before.
abbrev pub Places : List ℕ → List ℕ → List Place → List Place → Result (Form × ℕ) PlaceRefusal
    → Type 0
Places table bytes old new (Ok answer) =
    (nodes : Nodes) × IsPrintedTable nodes table × (list : List Atom) × IsContextOf list bytes
    × (answer.0 ≡ form_of bytes)
    × HoldsPlaces (form_of bytes) list (slots_of nodes) answer.1 old new
Places table bytes old new (Err (Room size)) =
    (nodes : Nodes) × IsPrintedTable nodes table × (list : List Atom) × IsContextOf list bytes
    × IsTooFewFor (slots_of nodes) size old new
Places table bytes old new (Err (Fault offset code)) =
    (nodes : Nodes) × IsPrintedTable nodes table
    × IsFirstContextFault bytes offset (byte_code_of code) × (new ≡ old)
Places table bytes old new (Err (Table line code)) = IsTableFault table line code × (new ≡ old)
Places table bytes old new (Err (NoSlot which)) = ⊥
Places table bytes old new (Err Memory) = new ≡ old

-- The bytes are those of a context, and the places of this table's slots in them are at the
-- beginning of the array; the answer is the form of the bytes and the number of slots. Or the array
-- has no room for them, or the bytes have this first fault, or there is no memory; and the array is
-- as before.
abbrev pub PlacesUnder : Nodes → List ℕ → List Place → List Place → Result (Form × ℕ) PlaceRefusal
    → Type 0
PlacesUnder nodes bytes old new (Ok answer) =
    (list : List Atom) × IsContextOf list bytes × (answer.0 ≡ form_of bytes)
    × HoldsPlaces (form_of bytes) list (slots_of nodes) answer.1 old new
PlacesUnder nodes bytes old new (Err (Room size)) =
    (list : List Atom) × IsContextOf list bytes × IsTooFewFor (slots_of nodes) size old new
PlacesUnder nodes bytes old new (Err (Fault offset code)) =
    IsFirstContextFault bytes offset (byte_code_of code) × (new ≡ old)
PlacesUnder nodes bytes old new (Err (Table line code)) = ⊥
PlacesUnder nodes bytes old new (Err (NoSlot which)) = ⊥
PlacesUnder nodes bytes old new (Err Memory) = new ≡ old

-- A slot of a table has one place in a list and a form.
abbrev pub HasOnePlace : Type 0
HasOnePlace =
    (form : Form) (nodes : Nodes) (list : List Atom) (slot : ℕ) (at : SlotAt) (a b : Place)
    → IsTable nodes → HasSlot nodes slot at → IsPlaceInBytes form list at a
    → IsPlaceInBytes form list at b → a ≡ b
