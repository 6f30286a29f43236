-- The first datum of a part, and the last, when one more atom is looked at.
use Rattle.std.proofs.Common.{ℕ, ◌+◌, ◌<◌, ◌≤◌, List, Option, Some, None, inl, inr, subst, arith}
use Rattle.std.proofs.lemmas.Bool.{cases_order}
use Rattle.context_model.specs.Atoms.{Atom}
use Rattle.bag_walks.specs.Gathering.{IsDatumAt, IsFirstDatum, IsLastDatum}

-- There is no datum up to a place.
abbrev pub NoneUpTo : List Atom → ℕ → ℕ → Type 0
NoneUpTo list from to = (k : ℕ) → from ≤ k → k < to → IsDatumAt list k → ⊥

none_more : (list : List Atom) (from to : ℕ) → (IsDatumAt list to → ⊥) → NoneUpTo list from to → NoneUpTo list from (to + 1)
none_more list from to other none k l m is = elim (cases_order k to) as (λ v. ⊥) [
  | inl same ↦ other (subst (IsDatumAt list) same is)
  | inr (inl before) ↦ none k l before is
  | inr (inr after) ↦ absurd (omega arith)
]

-- There is none yet, and the next atom is none either.
pub first_more : (list : List Atom) (from to : ℕ) → (IsDatumAt list to → ⊥) → IsFirstDatum list from to None → IsFirstDatum list from (to + 1) None
first_more list from to other none = none_more list from to other none

-- The next atom is no datum, so the last datum stays.
pub last_stays : (list : List Atom) (from to : ℕ) (last : Option ℕ) → (IsDatumAt list to → ⊥) → IsLastDatum list from to last → IsLastDatum list from (to + 1) last
last_stays list from to None other none = none_more list from to other none
last_stays list from to (Some place) other is = (
  is.0,
  omega (arith, is.1),
  is.2,
  λ k l m datum. elim (cases_order k to) [
    | inl same ↦ other (subst (IsDatumAt list) same datum)
    | inr (inl before) ↦ is.3 k l before datum
    | inr (inr after) ↦ absurd (omega arith)
  ],
)

-- The next atom is a datum, the last so far.
pub last_here : (list : List Atom) (from to : ℕ) → from ≤ to → IsDatumAt list to → IsLastDatum list from (to + 1) (Some to)
last_here list from to l is = (l, omega arith, is, λ k m n datum. omega arith)
