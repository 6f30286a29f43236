-- The places of a walk over a list: each atom's, with those of the headers around it.
use Rattle.std.specs.Prelude.{◌≡◌, ℕ, ◌+◌, ◌-◌, ◌<◌, ◌≤◌, ◌==◌, ◌&&◌, true, false, if◌then◌else◌, List, [], ◌∷◌, ◌++◌, length, map, replicate, take, slice_get, slice_index, Some}
use Rattle.std.specs.List.{range_with_len}
use Rattle.context_model.specs.declared.TheConstants.{LEVELS_MAX}
use Rattle.context_model.specs.Atoms.{Atom}
use Rattle.context_model.specs.Orders.{Path}
use Rattle.context_model.specs.Paths.{is_header, level, header_count, last_path_after}
use Rattle.context_model.specs.WellFormed.{IsWellFormed}
use Rattle.context_model.specs.Nearest.{IsNearestPlace}
use Rattle.atom_list.specs.OpenPlaces.{atom_at}
use Rattle.atom_list.specs.declared.places.Place.{Place}

-- The place of the last header of level n in a list whose first atom has the place i, or the one
-- given where there is none.
abbrev pub nearest_place_from : ℕ → ℕ → ℕ → List Atom → ℕ
nearest_place_from last n i [] = last
nearest_place_from last n i (a ∷ list) =
    nearest_place_from (if is_header a && (level a == n) then i else last) n (i + 1) list

-- The place of the last header of level n in a list.
abbrev pub nearest_place : List Atom → ℕ → ℕ
nearest_place list n = nearest_place_from 0 n 0 list

-- The places of the last headers of the first `count` levels in a list.
abbrev pub nearest_places : ℕ → List Atom → List ℕ
nearest_places count list = map (nearest_place list) (range_with_len 0 count)

-- How many headers are around an atom that follows one with the path q: as many as its level for a
-- header, and those of q for others.
abbrev pub headers_around : Path → Atom → ℕ
headers_around q a = if is_header a then level a else header_count q

-- The places, and 0 for each of the other levels.
abbrev pub padded : List ℕ → List ℕ
padded places = places ++ replicate (LEVELS_MAX - length places) 0

-- The place of an atom after the others: its number, how many headers are around it, and their
-- places.
abbrev pub place_of : List Atom → Atom → Place
place_of before a =
    let count = headers_around (last_path_after [] before) a in
    record { at = length before; level = count; above = padded (nearest_places count before) }

-- The place of each atom of a list that follows the others.
abbrev pub places_behind : List Atom → List Atom → List Place
places_behind before [] = []
places_behind before (a ∷ list) = place_of before a ∷ places_behind (before ++ a ∷ []) list

-- The place of each atom of a list.
abbrev pub places : List Atom → List Place
places = places_behind []

-- In a walk over a well-formed list these are the places of the headers that are open before this
-- place.
pub record IsAtomWalk (list : List Atom) (at : ℕ) (headers : List ℕ) : Type 0 where
  pub well_formed : IsWellFormed list
  pub within : at ≤ length list
  pub open_places : headers
      ≡ nearest_places (header_count (last_path_after [] (take at list))) (take at list)

-- How many levels are open after a list, where `depth` levels are open before it: one more than the
-- level of its last header, or `depth` where it has none.
abbrev pub depth_from : ℕ → List Atom → ℕ
depth_from depth [] = depth
depth_from depth (a ∷ list) = depth_from (if is_header a then level a + 1 else depth) list

-- How many levels are open after a list: one more than the level of its last header, and none where
-- it has none.
abbrev pub depth_behind : List Atom → ℕ
depth_behind = depth_from 0

-- A header is within as many headers as its level, and any other atom within one more than the
-- level of the last header before it. At each level below its own a place has that of the nearest
-- header of that level before the atom, and 0 at the others.
pub record IsPlaceAt (list : List Atom) (at : ℕ) (place : Place) : Type 0 where
  pub number : place.at ≡ at
  pub few : place.level ≤ LEVELS_MAX
  pub header : is_header (atom_at list at) ≡ true → place.level ≡ level (atom_at list at)
  pub other : is_header (atom_at list at) ≡ false → place.level ≡ depth_behind (take at list)
  pub nearest : (n : ℕ) → n < place.level → IsNearestPlace list at n (slice_index place.above n)
  pub others : (n : ℕ) → place.level ≤ n → slice_index place.above n ≡ 0

-- A walk over a well-formed list has one place for each atom, with the places of the nearest
-- headers around it.
pub record HasNearestPlaces (list : List Atom) : Type 0 where
  pub whole : length (places list) ≡ length list
  pub each : (at : ℕ) (place : Place) → slice_get (places list) at ≡ Some place
      → IsPlaceAt list at place

-- Walks find the nearest headers.
abbrev pub WalksFindNearest : Type 0
WalksFindNearest = (list : List Atom) → IsWellFormed list → HasNearestPlaces list
