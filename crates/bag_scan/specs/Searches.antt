-- What searches for headers find.
use Rattle.std.specs.Prelude.{◌≡◌, ℕ, ◌+◌, ◌<◌, ◌≤◌, List, length}
use Rattle.context_model.specs.Atoms.{Atom}
use Rattle.context_model.specs.Kinds.{atom_of}
use Rattle.context_model.specs.Kinds.Kind.{Keyed}
use Rattle.context_model.specs.Paths.{atom_at}
use Rattle.bag_walks.specs.Parts.{StaysBelow, IsSegment}
use Rattle.bag_walks.specs.Searches.{IsSought}

-- A search from a place on for the header h of this level stopped at it, and this is the place
-- after it.
pub record IsFoundBehind (list : List Atom) (depth : ℕ) (h : Atom) (from behind : ℕ) : Type 0 where
  pub place : ℕ
  pub next : behind ≡ place + 1
  pub sought : IsSought list depth h from place
  pub within : place < length list
  pub there : atom_at list place ≡ h

-- A search from a place on for the header h of this level stopped at the second place, where
-- another atom is or the list ends.
pub record IsMissing (list : List Atom) (depth : ℕ) (h : Atom) (from stop : ℕ) : Type 0 where
  pub sought : IsSought list depth h from stop
  pub other : stop < length list → atom_at list stop ≡ h → ⊥

-- From the first place up to the second there is no header of a key of this level, and none of a
-- lesser level.
pub record PassesNoKey (list : List Atom) (depth from to : ℕ) : Type 0 where
  pub stays : StaysBelow list depth from to
  pub none : (k : ℕ) (key : List ℕ) → from ≤ k → k < to → atom_at list k ≡ atom_of (Keyed depth key)
      → ⊥

-- The next header of a key of this level, from a place on, is that of this key, and this is the
-- place after it.
pub record IsKeyFound (list : List Atom) (depth from : ℕ) (key : List ℕ) (start : ℕ) : Type 0 where
  pub place : ℕ
  pub next : start ≡ place + 1
  pub before : PassesNoKey list depth from place
  pub within : place < length list
  pub is : atom_at list place ≡ atom_of (Keyed depth key)

-- What is below, from a place on, ends at the second place, and there is no header of a key of this
-- level before that.
pub record HasNoKey (list : List Atom) (depth from stop : ℕ) : Type 0 where
  pub before : PassesNoKey list depth from stop
  pub segment : IsSegment list depth from stop
