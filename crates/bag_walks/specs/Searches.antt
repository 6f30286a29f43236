-- Searches for the header of a field among those below a path, and where walks stop.
use Rattle.std.specs.Prelude.{◌≡◌, ◌≢◌, ℕ, ◌<◌, ◌≤◌, true, List, length}
use Rattle.std.specs.declared.cmp.Ordering.TheVariants.{Less, Greater}
use Rattle.context_model.specs.Atoms.{Atom}
use Rattle.context_model.specs.Ended.{IsBeyond}
use Rattle.context_model.specs.Orders.{Path, atom_cmp}
use Rattle.context_model.specs.Paths.{is_header, level, atom_at, path_at}
use Rattle.bag_walks.specs.Parts.{StaysBelow}

-- A search for the header h of this level goes past the atom at a place: if it is a header, its
-- level isn't less, and one of the same level comes before h.
abbrev pub IsPassed : List Atom → ℕ → Atom → ℕ → Type 0
IsPassed list depth h at =
    is_header (atom_at list at) ≡ true
    → (depth ≤ level (atom_at list at))
    × (level (atom_at list at) ≡ depth → atom_cmp (atom_at list at) h ≡ Less)

-- A search for the header h of this level stops at the atom at a place: it is a header whose level
-- isn't greater, and one of the same level is h or comes after it.
abbrev pub IsStop : List Atom → ℕ → Atom → ℕ → Type 0
IsStop list depth h at =
    (is_header (atom_at list at) ≡ true)
    × (level (atom_at list at) ≤ depth)
    × (level (atom_at list at) ≡ depth → atom_cmp h (atom_at list at) ≢ Greater)

-- A search for the header h of this level has gone from the first place to the second.
pub record HasPassed (list : List Atom) (depth : ℕ) (h : Atom) (from to : ℕ) : Type 0 where
  pub stays : StaysBelow list depth from to
  pub passed : (k : ℕ) → from ≤ k → k < to → IsPassed list depth h k

-- A search for the header h of this level has gone from the first place to the second, and stops
-- there, or at the end.
pub record IsSought (list : List Atom) (depth : ℕ) (h : Atom) (from to : ℕ) : Type 0 where
  pub before : HasPassed list depth h from to
  pub stops : to < length list → IsStop list depth h to

-- The first place from which on the paths are beyond s, or the end where there is none.
pub record IsFirstBeyond (list : List Atom) (s : Path) (to : ℕ) : Type 0 where
  pub within : to ≤ length list
  pub before : (k : ℕ) → k < to → IsBeyond s (path_at list k) → ⊥
  pub there : to < length list → IsBeyond s (path_at list to)
