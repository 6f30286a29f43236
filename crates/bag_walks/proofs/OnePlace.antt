-- A list has one first ill-typed place.
use Rattle.std.proofs.Common.{◌≡◌, ℕ, List, inl, inr, arith}
use Rattle.std.proofs.lemmas.Bool.{cases_lt}
use Rattle.context_model.specs.Atoms.{Atom}
use Rattle.bag_model.specs.Shapes.{Nodes}
use Rattle.bag_model.specs.Typed.{IsFirstIllTyped}

pub one_place : (table : Nodes) (list : List Atom) (i j : ℕ) → IsFirstIllTyped table list i → IsFirstIllTyped table list j → i ≡ j
one_place table list i j first other = elim (cases_lt i j) [
  | inl less ↦ absurd (other.first i less first.misspells)
  | inr more ↦ elim (cases_lt j i) [
    | inl less ↦ absurd (first.first j less other.misspells)
    | inr fewer ↦ omega arith
  ]
]
