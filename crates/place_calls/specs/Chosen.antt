-- Where chosen slots of a table are in the bytes of a context.
use Rattle.std.specs.Prelude.{◌≡◌, ℕ, ◌<◌, ◌≤◌, List, [], ◌∷◌, ◌++◌, length, drop, map, EachIndex, slice_index, Some, Result, Ok, Err}
use Rattle.std.specs.List.{slice_get}
use Rattle.context_model.specs.declared.Form.{Form}
use Rattle.context_model.specs.Atoms.{Atom}
use Rattle.context_model.specs.ContextFault.{IsContextOf, IsFirstContextFault}
use Rattle.context_model.specs.Framing.{form_of}
use Rattle.bag_model.specs.Shapes.{Nodes}
use Rattle.bag_model.specs.Slots.{SlotAt, slots_of}
use Rattle.bag_model.specs.SlotValues.{HasSlot}
use Rattle.bag_model.specs.Tables.{IsTable}
use Rattle.table_text.specs.Reading.{IsTableFault}
use Rattle.wire_bytes.specs.Reading.{byte_code_of}
use Rattle.field_calls.specs.Fields.{IsPrintedTable}
use Rattle.place_calls.specs.declared.places.Place.{Place}
use Rattle.place_calls.specs.declared.refusals.PlaceRefusal.{PlaceRefusal}
use Rattle.place_calls.specs.declared.refusals.PlaceRefusal.TheVariants.{Table, NoSlot, Fault, Memory, Room}
use Rattle.place_calls.specs.Places.{ArePlacesInBytes, IsPlaceInBytes}

-- Each number is that of a slot of the table.
abbrev pub AreSlots : Nodes → List ℕ → Type 0
AreSlots nodes chosen =
    EachIndex chosen (λ k. slice_index chosen k < length (slots_of nodes))

-- The number at this place is that of no slot of the table, and each before it is that of one.
pub record IsFirstNoSlot (nodes : Nodes) (chosen : List ℕ) (which : ℕ) : Type 0 where
  pub within : which < length chosen
  pub none : length (slots_of nodes) ≤ slice_index chosen which
  pub before : (k : ℕ) → k < which → slice_index chosen k < length (slots_of nodes)

-- Why the numbers aren't those of slots of the table.
abbrev pub IsNoSlotOf : Nodes → List ℕ → PlaceRefusal → Type 0
IsNoSlotOf nodes chosen (NoSlot which) = IsFirstNoSlot nodes chosen which
IsNoSlotOf nodes chosen other = ⊥

-- The place is that of the slot with this number.
abbrev pub IsPlaceOfSlot : Form → Nodes → List Atom → ℕ → Place → Type 0
IsPlaceOfSlot form nodes list slot place =
    (at : SlotAt) × HasSlot nodes slot at × IsPlaceInBytes form list at place

-- The places are those of the slots with these numbers, one by one.
abbrev pub AreChosenPlaces : Form → Nodes → List Atom → List ℕ → List Place → Type 0
AreChosenPlaces form nodes list [] [] = Unit {0}
AreChosenPlaces form nodes list [] (place ∷ places) = ⊥
AreChosenPlaces form nodes list (slot ∷ chosen) [] = ⊥
AreChosenPlaces form nodes list (slot ∷ chosen) (place ∷ places) =
    IsPlaceOfSlot form nodes list slot place × AreChosenPlaces form nodes list chosen places

-- The array has room for a place for each of the numbers: it begins with those of these slots, and
-- goes on as before.
pub record HoldsChosen (form : Form) (nodes : Nodes) (list : List Atom) (chosen : List ℕ)
    (old new : List Place) : Type 0 where
  pub found : List Place
  pub places : AreChosenPlaces form nodes list chosen found
  pub fits : length chosen ≤ length old
  pub stands : new ≡ found ++ drop (length chosen) old

-- The places of the chosen slots are at the beginning of the array, or it has no room for them.
abbrev pub PutsChosen : Form → Nodes → List Atom → List ℕ → List Place → List Place
    → Result ℕ PlaceRefusal → Type 0
PutsChosen form nodes list chosen old new (Ok count) =
    (count ≡ length chosen) × HoldsChosen form nodes list chosen old new
PutsChosen form nodes list chosen old new (Err (Room size)) =
    (size ≡ length chosen) × (length old < size) × (new ≡ old)
PutsChosen form nodes list chosen old new (Err other) = ⊥

-- The numbers are those of slots of the table, the bytes are those of a context, and the places of
-- these slots in the bytes are at the beginning of the array, in the order of the numbers; the
-- answer is the form of the bytes and how many numbers there are. Or the array has no room for
-- them. Or a number is the first that is that of no slot; or all are those of slots, and the bytes
-- have this first fault; or there is no memory; and the array is as before.
abbrev pub ChosenPlacesUnder : Nodes → List ℕ → List ℕ → List Place → List Place
    → Result (Form × ℕ) PlaceRefusal → Type 0
ChosenPlacesUnder nodes chosen bytes old new (Ok answer) =
    AreSlots nodes chosen × (list : List Atom) × IsContextOf list bytes
    × (answer.0 ≡ form_of bytes) × (answer.1 ≡ length chosen)
    × HoldsChosen (form_of bytes) nodes list chosen old new
ChosenPlacesUnder nodes chosen bytes old new (Err (Room size)) =
    AreSlots nodes chosen × (list : List Atom) × IsContextOf list bytes
    × (size ≡ length chosen) × (length old < size) × (new ≡ old)
ChosenPlacesUnder nodes chosen bytes old new (Err (NoSlot which)) =
    IsFirstNoSlot nodes chosen which × (new ≡ old)
ChosenPlacesUnder nodes chosen bytes old new (Err (Fault offset code)) =
    AreSlots nodes chosen × IsFirstContextFault bytes offset (byte_code_of code) × (new ≡ old)
ChosenPlacesUnder nodes chosen bytes old new (Err (Table line code)) = ⊥
ChosenPlacesUnder nodes chosen bytes old new (Err Memory) = new ≡ old

-- The text is that of a table, and what is done is what is done under that table; or it has this
-- first fault, or there is no memory, and the array is as before.
abbrev pub ChosenPlaces : List ℕ → List ℕ → List ℕ → List Place → List Place
    → Result (Form × ℕ) PlaceRefusal → Type 0
ChosenPlaces table chosen bytes old new (Err (Table line code)) =
    IsTableFault table line code × (new ≡ old)
ChosenPlaces table chosen bytes old new (Err Memory) = new ≡ old
ChosenPlaces table chosen bytes old new result =
    (nodes : Nodes) × IsPrintedTable nodes table
    × ChosenPlacesUnder nodes chosen bytes old new result

-- The places of chosen slots are those which the places of all slots have at the chosen numbers.
abbrev pub ChosenAreOfAll : Type 0
ChosenAreOfAll =
    (form : Form) (nodes : Nodes) (list : List Atom) (chosen : List ℕ) (all found : List Place)
    → IsTable nodes → ArePlacesInBytes form list (slots_of nodes) all
    → AreChosenPlaces form nodes list chosen found
    → map (λ (place : Place). Some place) found ≡ map (slice_get all) chosen
