-- Parts of a list, from one place up to another, and what is in them.
use Rattle.std.specs.Prelude.{◌≡◌, ℕ, ◌<◌, ◌≤◌, true, false, List, take, length}
use Rattle.context_model.specs.Atoms.{Atom}
use Rattle.context_model.specs.Orders.{Path}
use Rattle.context_model.specs.Paths.{is_header, level, header_count, atom_at, path_before}
use Rattle.context_model.specs.Ended.{AreHeaders}
use Rattle.context_model.specs.WellFormed.{IsWellFormed}

-- In a well-formed list the path q, which is of headers alone, is that of the atom before this
-- place; where q is empty the place is the first.
pub record IsBehind (list : List Atom) (q : Path) (at : ℕ) : Type 0 where
  pub well_formed : IsWellFormed list
  pub within : at ≤ length list
  pub headers : AreHeaders q
  pub path : path_before list at ≡ q

-- There is no header from the first place up to the second.
pub record HasNoHeader (list : List Atom) (from to : ℕ) : Type 0 where
  pub rises : from ≤ to
  pub within : to ≤ length list
  pub none : (k : ℕ) → from ≤ k → k < to → is_header (atom_at list k) ≡ false

-- The data after a header: from a place up to the next header, or to the end.
pub record IsDataPart (list : List Atom) (from to : ℕ) : Type 0 where
  pub part : HasNoHeader list from to
  pub ends : to < length list → is_header (atom_at list to) ≡ true

-- The headers from the first place up to the second have this level or a greater one.
pub record StaysBelow (list : List Atom) (depth from to : ℕ) : Type 0 where
  pub rises : from ≤ to
  pub within : to ≤ length list
  pub deep : (k : ℕ) → from ≤ k → k < to → is_header (atom_at list k) ≡ true
      → depth ≤ level (atom_at list k)

-- All that is below a header: from a place up to the next header of a lesser level, or to the end.
pub record IsSegment (list : List Atom) (depth from to : ℕ) : Type 0 where
  pub part : StaysBelow list depth from to
  pub ends : to < length list
      → (is_header (atom_at list to) ≡ true) × (level (atom_at list to) < depth)

-- Before the atom at this place the headers of q are open, and maybe more below them.
pub record IsInside (list : List Atom) (q : Path) (k : ℕ) : Type 0 where
  pub front : take (length q) (path_before list k) ≡ q
  pub deep : length q ≤ header_count (path_before list k)

-- The atom is at some place from the first up to the second.
pub record Stands (list : List Atom) (a : Atom) (from to : ℕ) : Type 0 where
  pub place : ℕ
  pub from_on : from ≤ place
  pub up_to : place < to
  pub atom : atom_at list place ≡ a
