-- Atoms, and lists of them.
use Rattle.std.specs.Prelude.{ℕ, ◌≤◌, List, length}
use Rattle.std.specs.List.{AllByRecursion}
use Rattle.context_model.specs.declared.TheConstants.{ATOM_MAX}

-- An atom is a byte string.
abbrev pub Atom : Type 0
Atom = List ℕ

-- Each atom of the list is within the limit of bytes.
abbrev pub AreAtoms : List Atom → Type 0
AreAtoms list = AllByRecursion (λ atom. length atom ≤ ATOM_MAX) list
