-- A list without some of its data.
use Rattle.std.specs.Prelude.{◌≡◌, ◌↔◌, ℕ, ◌==◌, ◌+◌, if◌then◌else◌, List, [], ◌∷◌, slice_get, Some}
use Rattle.std.specs.List.{list_any, AllByRecursion}
use Rattle.context_model.specs.Atoms.{Atom}
use Rattle.context_model.specs.Orders.{Path}
use Rattle.context_model.specs.WellFormed.{IsWellFormed}
use Rattle.context_model.specs.Ended.{IsEnded, AreHeaders}

-- The atoms from place i on without those whose places are gone; all others stay, in order.
abbrev pub without_from : ℕ → List ℕ → List Atom → List Atom
without_from i gone [] = []
without_from i gone (a ∷ list) =
    if list_any (λ place. place == i) gone then without_from (i + 1) gone list else a
    ∷ without_from (i + 1) gone list

-- The list without the atoms at the places that are gone.
abbrev pub without : List ℕ → List Atom → List Atom
without = without_from 0

-- Each of the places is that of a datum of the list.
abbrev pub AreDataPlaces : List ℕ → List Atom → Type 0
AreDataPlaces gone list =
    AllByRecursion (λ place. (payload : List ℕ) × (slice_get list place ≡ Some (0 ∷ payload))) gone

-- What is left is well formed, and ended at each path of headers exactly where the list was.
pub record KeepsContext (list left : List Atom) : Type 0 where
  pub well_formed : IsWellFormed left
  pub ended : (s : Path) → AreHeaders s → IsEnded list s ↔ IsEnded left s

-- Data may be taken from a well-formed list.
abbrev pub DataMayGo : Type 0
DataMayGo =
    (list : List Atom) (gone : List ℕ) → IsWellFormed list → AreDataPlaces gone list
    → KeepsContext list (without gone list)
