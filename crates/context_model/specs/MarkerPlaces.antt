-- After which atom a marker comes.
use Rattle.std.specs.Prelude.{◌≡◌, ◌↔◌, ℕ, List, [], Some, slice_get, take}
use Rattle.context_model.specs.Atoms.{Atom}
use Rattle.context_model.specs.Orders.{Path}
use Rattle.context_model.specs.Paths.{last_path_after}
use Rattle.context_model.specs.WellFormed.{IsWellFormed}
use Rattle.context_model.specs.Ended.{HasMarker, front_of, IsBeyond, IsEnded}

-- The list has a marker directly after the atom with the path q; where q is empty, the marker comes
-- first.
pub record HasMarkerBehind (list : List Atom) (q : Path) : Type 0 where
  pub place : ℕ
  pub there : slice_get list place ≡ Some []
  pub behind : last_path_after [] (take place list) ≡ q

-- The first marker of the list comes after the atom with the path q; where q is empty, it is the
-- first atom.
pub record HasFirstMarkerBehind (list : List Atom) (q : Path) : Type 0 where
  pub marker : HasMarker list
  pub behind : last_path_after [] (front_of list) ≡ q

-- A well-formed list with a marker is ended at s exactly where the atom before the first one is
-- beyond s.
abbrev pub EndsAtFirstMarker : Type 0
EndsAtFirstMarker =
    (list : List Atom) (s q : Path) → IsWellFormed list → HasFirstMarkerBehind list q
    → IsEnded list s ↔ IsBeyond s q
