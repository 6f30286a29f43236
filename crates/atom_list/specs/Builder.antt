-- Lists in the making.
use Rattle.std.specs.Prelude.{◌≡◌, ℕ, ◌+◌, ◌≤◌, ◌++◌, List, [], ◌∷◌, length, slice_range}
use Rattle.context_model.specs.Atoms.{Atom, AreAtoms}
use Rattle.context_model.specs.declared.Form.TheVariants.{One}
use Rattle.context_model.specs.Framing.{frames}
use Rattle.atom_list.specs.Starts.{atoms_at, starts_from, IsPieceOf}
use Rattle.atom_list.specs.declared.builder.TheConstants.{BUFFER_MAX}

-- A list in the making, and the room that is left for bytes and for atoms.
pub record Built : Type 0 where
  pub atoms : List Atom
  pub byte_room : ℕ
  pub atom_room : ℕ

-- The room for bytes that atoms are given: each its own bytes and three of its length.
abbrev pub byte_room_for : List Atom → ℕ
byte_room_for [] = 0
byte_room_for (atom ∷ list) = length atom + 3 + byte_room_for list

-- The room for bytes that the atoms from one place to another are given.
abbrev pub run_room : List Atom → ℕ → ℕ → ℕ
run_room list from to = byte_room_for (slice_range list from to)

-- Whatever list these frames are, it was added.
abbrev pub AddsPiece : List ℕ → ℕ → List ℕ → List Atom → List Atom → Type 0
AddsPiece piece at starts old new =
    (list : List Atom) → IsPieceOf piece at starts list → new ≡ old ++ list

-- The buffer is the bytes of its atoms, and no longer than a buffer may be.
pub record IsBuilt (bytes : List ℕ) (starts : List ℕ) : Type 0 where
  pub short : AreAtoms (atoms_at bytes starts)
  pub there : starts ≡ starts_from 0 (atoms_at bytes starts)
  pub framed : bytes ≡ frames One (atoms_at bytes starts)
  pub few : length bytes ≤ BUFFER_MAX
