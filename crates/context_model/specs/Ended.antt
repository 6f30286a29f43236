-- What of a list can't have lost anything to a cut.
use Rattle.std.specs.Prelude.{◌≡◌, ◌⊎◌, ◌↔◌, ℕ, suc, true, List, [], ◌∷◌, ◌++◌}
use Rattle.std.specs.declared.cmp.Ordering.TheVariants.{Less}
use Rattle.context_model.specs.Atoms.{Atom}
use Rattle.context_model.specs.Kinds.{atom_of}
use Rattle.context_model.specs.Kinds.Kind.{Indexed}
use Rattle.context_model.specs.Orders.{Path, path_cmp, IsIn}
use Rattle.context_model.specs.Paths.{is_header, paths}
use Rattle.context_model.specs.WellFormed.{IsWellFormed}

-- The list has a marker.
abbrev pub HasMarker : List Atom → Type 0
HasMarker list = IsIn [] list

-- The atoms before the first marker.
abbrev pub front_of : List Atom → List Atom
front_of [] = []
front_of ([] ∷ list) = []
front_of ((b ∷ bytes) ∷ list) = (b ∷ bytes) ∷ front_of list

-- The path q is s or below it.
abbrev pub IsBelow : Path → Path → Type 0
IsBelow s q = (rest : Path) × (q ≡ s ++ rest)

-- The path q comes after s and everything below it.
abbrev pub IsBeyond : Path → Path → Type 0
IsBeyond s q = (path_cmp s q ≡ Less) × (IsBelow s q → ⊥)

-- Nothing below s can have been cut off: there is no marker, or some atom before the first one is
-- beyond s.
abbrev pub IsEnded : List Atom → Path → Type 0
IsEnded list s = (HasMarker list → ⊥) ⊎ ((q : Path) × IsIn q (paths (front_of list)) × IsBeyond s q)

-- The atom before each marker is beyond s, and no marker comes first.
abbrev pub IsEndedAtMarkers : List Atom → Path → Type 0
IsEndedAtMarkers list s = (q : Path) → IsIn (q ++ [] ∷ []) (paths list) → IsBeyond s q

-- In a well-formed list a field is ended exactly where the atom before each marker is beyond it.
abbrev pub EndsAtMarkers : Type 0
EndsAtMarkers =
    (list : List Atom) (s : Path) → IsWellFormed list → IsEnded list s ↔ IsEndedAtMarkers list s

-- Each atom of the path is a header.
abbrev pub AreHeaders : Path → Type 0
AreHeaders [] = Unit {0}
AreHeaders (a ∷ q) = (is_header a ≡ true) × AreHeaders q

-- The path of a field of nested bags: the indexed headers with these numbers, from this level on.
abbrev pub field_path_from : ℕ → List ℕ → Path
field_path_from n [] = []
field_path_from n (number ∷ numbers) = atom_of (Indexed n number) ∷ field_path_from (suc n) numbers

-- The path of the field with these numbers.
abbrev pub field_path : List ℕ → Path
field_path = field_path_from 0
