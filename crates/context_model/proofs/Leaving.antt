-- A list without some of its data, atom by atom.
use Rattle.std.specs.Prelude.{ℕ, List, [], ◌∷◌}
use Rattle.context_model.specs.Atoms.{Atom}

-- What is left of the list: every atom but some of its data.
pub data LeavesAllButData : List Atom → List Atom → Type 0 where
  empty : LeavesAllButData [] []
  drops : {payload : List ℕ} {list left : List Atom} → LeavesAllButData list left → LeavesAllButData ((0 ∷ payload) ∷ list) left
  keeps : {a : Atom} {list left : List Atom} → LeavesAllButData list left → LeavesAllButData (a ∷ list) (a ∷ left)
