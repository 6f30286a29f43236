-- The nearest header of a level before a place, as an atom and as a place.
use Rattle.std.specs.Prelude.{◌≡◌, ℕ, ◌+◌, ◌<◌, true, ◌==◌, ◌&&◌, if◌then◌else◌, List, [], ◌∷◌, Option, Some, None, slice_get}
use Rattle.context_model.specs.Atoms.{Atom}
use Rattle.context_model.specs.Paths.{is_header, level, header_count, last_path_after}
use Rattle.context_model.specs.WellFormed.{IsWellFormed}

-- The last header of this level in a list, or the one given where there is none.
abbrev pub nearest_from : Option Atom → ℕ → List Atom → Option Atom
nearest_from last n [] = last
nearest_from last n (a ∷ list) =
    nearest_from (if is_header a && (level a == n) then Some a else last) n list

-- The last header of this level in a list.
abbrev pub nearest : ℕ → List Atom → Option Atom
nearest = nearest_from None

-- The last header of a list, or the one given where there is none.
abbrev pub last_header_from : Option Atom → List Atom → Option Atom
last_header_from last [] = last
last_header_from last (a ∷ list) = last_header_from (if is_header a then Some a else last) list

-- The last header of a list.
abbrev pub last_header : List Atom → Option Atom
last_header = last_header_from None

-- How many levels are open after a header, and where there is none.
abbrev pub levels_open : Option Atom → ℕ
levels_open None = 0
levels_open (Some header) = level header + 1

-- The path of the last atom of a well-formed list has the headers of the levels up to that of the
-- last header, and at each level the nearest header of that level.
pub record HasNearestHeaders : Type 0 where
  pub number : (list : List Atom) → IsWellFormed list
      → header_count (last_path_after [] list) ≡ levels_open (last_header list)
  pub each : (list : List Atom) (n : ℕ) → IsWellFormed list
      → n < header_count (last_path_after [] list)
      → slice_get (last_path_after [] list) n ≡ nearest n list

-- At this place is a header of level n, and none of that level between there and the other place.
pub record IsNearestPlace (list : List Atom) (at n place : ℕ) : Type 0 where
  pub before : place < at
  pub atom : Atom
  pub there : slice_get list place ≡ Some atom
  pub header : is_header atom ≡ true
  pub level_is : level atom ≡ n
  pub nearest_one : (i : ℕ) (other : Atom) → place < i → i < at → slice_get list i ≡ Some other
      → is_header other ≡ true → level other ≡ n → ⊥
