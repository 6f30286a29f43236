-- What a merge keeps of the markers of its lists, and of what they say was cut off.
use Rattle.std.specs.Prelude.{◌≡◌, ◌↔◌, List, [], ◌∷◌, ◌++◌}
use Rattle.std.specs.List.{AllByRecursion}
use Rattle.std.specs.declared.cmp.Ordering.TheVariants.{Less}
use Rattle.context_model.specs.Atoms.{Atom}
use Rattle.context_model.specs.Orders.{Path, path_cmp, IsIn}
use Rattle.context_model.specs.Paths.{paths}
use Rattle.context_model.specs.WellFormed.{IsWellFormed}
use Rattle.context_model.specs.Ended.{HasMarker, front_of, IsEnded}
use Rattle.context_model.specs.MarkerPlaces.{HasMarkerBehind, HasFirstMarkerBehind}
use Rattle.context_model.specs.Merged.{SomeHasPath, IsMerged}

-- A merge has a marker exactly where one of the lists has one.
abbrev pub KeepsMarkers : Type 0
KeepsMarkers =
    (lists : List (List Atom)) (a : List Atom) → IsMerged lists a
    → HasMarker a ↔ ((list : List Atom) × IsIn list lists × HasMarker list)

-- A marker stays directly after the atom that it followed: a merge has one there exactly where one
-- of the lists has one there.
abbrev pub KeepsMarkersBehind : Type 0
KeepsMarkersBehind =
    (lists : List (List Atom)) (a : List Atom) (q : Path) → IsMerged lists a
    → HasMarkerBehind a q ↔ ((list : List Atom) × IsIn list lists × HasMarkerBehind list q)

-- The first marker of one of the lists comes after q, and that of no list after a lesser path.
pub record HasLeastFirstMarker (lists : List (List Atom)) (q : Path) : Type 0 where
  pub list : List Atom
  pub among : IsIn list lists
  pub first : HasFirstMarkerBehind list q
  pub least : (other : List Atom) (p : Path) → IsIn other lists → HasFirstMarkerBehind other p
      → path_cmp p q ≡ Less → ⊥

-- The first marker of a merge of well-formed lists is the least of their first markers, and comes
-- after the same atom as there.
abbrev pub KeepsFirstMarker : Type 0
KeepsFirstMarker =
    (lists : List (List Atom)) (a : List Atom) (q : Path) → AllByRecursion IsWellFormed lists
    → IsMerged lists a → HasFirstMarkerBehind a q ↔ HasLeastFirstMarker lists q

-- The atoms of a merge before its first marker have those paths of the lists that come before each
-- path of theirs that ends in a marker.
abbrev pub KeepsFronts : Type 0
KeepsFronts = (lists : List (List Atom)) (a : List Atom) (p : Path) → IsMerged lists a
    → IsIn p (paths (front_of a))
    ↔ (SomeHasPath lists p
    × ((q : Path) → SomeHasPath lists (q ++ [] ∷ []) → path_cmp p (q ++ [] ∷ []) ≡ Less))

-- A path is ended in a merge of well-formed lists exactly where it is ended in each of them.
abbrev pub EndsWithEach : Type 0
EndsWithEach =
    (lists : List (List Atom)) (a : List Atom) (s : Path) → AllByRecursion IsWellFormed lists
    → IsMerged lists a → IsEnded a s ↔ AllByRecursion (λ list. IsEnded list s) lists
