-- Lists that are found in bytes, which aren't copied.
use Rattle.std.specs.Prelude.{ℕ, ◌+◌, ◌≤◌, List, [], ◌∷◌, ◌++◌, length, take, slice_range}
use Rattle.context_model.specs.Atoms.{Atom}
use Rattle.atom_list.specs.Builder.{IsBuilt}
use Rattle.atom_list.specs.declared.builder.TheConstants.{BUFFER_MAX}

-- The list that was found at the beginning of bytes, and the bytes after it.
pub record Scanned : Type 0 where
  pub atoms : List Atom
  pub rest : List ℕ

-- The bytes before this place are those of the list.
pub record IsScan (bytes : List ℕ) (at : ℕ) (starts : List ℕ) : Type 0 where
  pub within : at ≤ length bytes
  pub few : length bytes ≤ BUFFER_MAX
  pub front : IsBuilt (take at bytes) starts

-- The list with one atom more: that of `len` bytes after the first `skip` bytes of the rest.
abbrev pub with_part : Scanned → ℕ → ℕ → List Atom
with_part scan skip len = scan.atoms ++ slice_range scan.rest skip (skip + len) ∷ []
