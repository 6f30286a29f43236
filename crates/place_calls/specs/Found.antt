-- What a walk finds of the slots of a table in a list.
use Rattle.std.specs.Prelude.{◌≡◌, ℕ, suc, List, [], ◌∷◌, ◌++◌, length, set, Option, Some, None}
use Rattle.context_model.specs.declared.Form.{Form}
use Rattle.context_model.specs.Atoms.{Atom}
use Rattle.context_model.specs.Ended.{field_path}
use Rattle.context_model.specs.Framing.{written_in}
use Rattle.context_model.specs.Orders.{Path}
use Rattle.context_model.specs.WellFormed.{IsWellFormed}
use Rattle.bag_model.specs.Readings.{PathsOf}
use Rattle.bag_model.specs.Shapes.{Shape}
use Rattle.bag_model.specs.Slots.{SlotAt}
use Rattle.bag_model.specs.Typed.{Misspells}
use Rattle.bag_scan.specs.States.{IsFirstMarker}
use Rattle.bag_typed.specs.Walk.{HasNone, IsFirstOfPaths}
use Rattle.bag_walks.specs.Searches.{IsFirstBeyond}
use Rattle.bag_walks.specs.Slots.{AddsEach, IsSpanOf}
use Rattle.place_calls.specs.declared.found.Searched.{Searched}
use Rattle.place_calls.specs.declared.places.Place.{Place}
use Rattle.place_calls.specs.Places.{IsPlaceInBytes}

-- The place is that of the first atom of the slot with the path s that isn't spelled as the shape
-- says. Without a place each is spelled so.
abbrev pub IsFirstMisspelled : List Atom → Path → Shape → Option ℕ → Type 0
IsFirstMisspelled list s shape None = HasNone list (Misspells shape s)
IsFirstMisspelled list s shape (Some place) = IsFirstOfPaths list (Misspells shape s) place

-- The part of the slot with the path s begins and ends at these places, and this is its first atom
-- that is misspelled.
pub record IsPartAt (list : List Atom) (s : Path) (shape : Shape) (from stop : ℕ)
    (misspelled : Option ℕ) : Type 0 where
  pub span : IsSpanOf list s (Some from) stop
  pub first : IsFirstMisspelled list s shape misspelled

-- The marker is the first one of the list, which is well formed, and no atom of which is too long
-- for the form.
pub record IsSearched (searched : Searched) : Type 0 where
  pub marker : IsFirstMarker searched.list.now searched.marker
  pub well_formed : IsWellFormed searched.list.now
  pub written : written_in searched.form searched.list.now ≡ searched.form

-- Nothing is at the path q or below it, and the place is the first one beyond it.
pub record IsAbsentAt (list : List Atom) (q : Path) (stop : ℕ) : Type 0 where
  pub bare : (rest : Path) → PathsOf list (q ++ rest) → ⊥
  pub first : IsFirstBeyond list q stop

-- The place is that of each slot with the path s and this shape.
abbrev pub IsPlaceOfPath : Form → List Atom → Path → Shape → Place → Type 0
IsPlaceOfPath form list s shape place =
    (at : SlotAt) → field_path at.numbers ≡ s → at.shape ≡ shape → IsPlaceInBytes form list at place

-- An array into which places are written one after another, from a number on, as far as it has
-- room.
abbrev pub with_places : List Place → ℕ → List Place → List Place
with_places room slot [] = room
with_places room slot (place ∷ places) = with_places (set room slot place) (suc slot) places

-- Where the array had places up to this number, it has those of these slots after them; the slots
-- are seen from a bag with the path q.
abbrev pub PutsPlacesOf : Searched → List SlotAt → Path → ℕ → List Place → List Place → Type 0
PutsPlacesOf searched slots q slot old new =
    (room before : List Place) → length before ≡ slot → old ≡ with_places room 0 before
    → (after : List Place)
    × AddsEach (IsPlaceOfPath searched.form searched.list.now) slots q before after
    × (new ≡ with_places room 0 after)
