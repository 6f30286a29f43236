-- Whether one of some paths is that of an atom of a list, and where the first such atom is.
use Rattle.std.specs.Prelude.{◌≡◌, ℕ, ◌<◌, List, length}
use Rattle.context_model.specs.Atoms.{Atom}
use Rattle.context_model.specs.Orders.{Path}
use Rattle.context_model.specs.Paths.{path_at}
use Rattle.bag_model.specs.Readings.{datum_path}

-- No atom of the list has one of these paths.
pub record HasNone (list : List Atom) (P : Path → Type 0) : Type 0 where
  pub none : (k : ℕ) → k < length list → P (path_at list k) → ⊥

-- The atom at this place has one of these paths, and no earlier one has.
pub record IsFirstOfPaths (list : List Atom) (P : Path → Type 0) (place : ℕ) : Type 0 where
  pub within : place < length list
  pub is : P (path_at list place)
  pub first : (earlier : ℕ) → earlier < place → P (path_at list earlier) → ⊥

-- The path is that of a datum after q whose payload isn't a right one.
abbrev pub IsWrongDatum : (List ℕ → Type 0) → Path → Path → Type 0
IsWrongDatum Right q p = (payload : List ℕ) × (p ≡ datum_path q payload) × ¬ (Right payload)
