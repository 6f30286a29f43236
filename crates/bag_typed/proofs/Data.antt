-- The data after a path, right ones up to a place.
use Rattle.std.proofs.Common.{◌≡◌, ℕ, ◌+◌, ◌<◌, ◌≤◌, inl, inr, Bool, true, false, IsTrue, List, [], ◌∷◌, length, ap, ◌∙◌, subst, arith}
use Rattle.std.proofs.lemmas.Bool.{cases_order}
use Rattle.context_model.specs.Atoms.{Atom}
use Rattle.context_model.specs.Orders.{Path, IsIn}
use Rattle.context_model.specs.Paths.{is_header, atom_at, paths}
use Rattle.context_model.proofs.PlacesOf.{path_there, last_is}
use Rattle.bag_walks.specs.Parts.{IsBehind, HasNoHeader, IsDataPart, Stands}
use Rattle.bag_walks.proofs.Inside.{datum_there}
use Rattle.bag_walks.proofs.Bridge.{data_are, not_before}
use Rattle.bag_typed.specs.Walk.{HasNone, IsFirstOfPaths, IsWrongDatum}

pub not_both : (b : Bool) → IsTrue b → b ≡ false → ⊥
not_both true t e = cc
not_both false t e = cc

-- The data from the first place up to the second are right ones.
pub record AreRight (Right : List ℕ → Type 0) (list : List Atom) (from to : ℕ) : Type 0 where
  pub right : (k : ℕ) (x : List ℕ) → from ≤ k → k < to → atom_at list k ≡ 0 ∷ x → Right x

-- A datum is no header.
pub datum_alone : (list : List Atom) (from to : ℕ) (x : List ℕ) → to < length list → atom_at list to ≡ 0 ∷ x → HasNoHeader list from to → HasNoHeader list from (to + 1)
datum_alone list from to x within is part = record {
  rises = omega (arith, part.rises);
  within = omega (arith, within);
  none = λ k l m. elim (cases_order k to) [
    | inl same ↦ ap (λ at. is_header (atom_at list at)) same ∙ ap is_header is
    | inr (inl before) ↦ part.none k l before
    | inr (inr after) ↦ absurd (omega arith)
  ];
}

module _ (Right : List ℕ → Type 0) (list : List Atom) (from : ℕ) where
  module _ (q : Path) (behind : IsBehind list q from) where
    -- Where all data of a part are right ones, no datum after q is wrong.
    pub right_data : (to : ℕ) → IsDataPart list from to → AreRight Right list from to → HasNone list (IsWrongDatum Right q)
    right_data to part are = record {
      none = λ k within (x, is, wrong).
          let s : Stands list (0 ∷ x) from to = (data_are list q from to x behind part).0 (subst (λ p. IsIn p (paths list)) is (path_there list k within)) in
          wrong (are.right s.place x s.from_on s.up_to s.atom);
    }

    -- The first datum that isn't right is the first wrong one after q.
    pub wrong_datum : (to at : ℕ) (x : List ℕ) → HasNoHeader list from to → from ≤ at → at < to → atom_at list at ≡ 0 ∷ x → (Right x → ⊥) → AreRight Right list from at
        → IsFirstOfPaths list (IsWrongDatum Right q) at
    wrong_datum to at x part l m is wrong are = record {
      within = omega (arith, m, part.within);
      is = (x, datum_there list q from to at x behind part l m is, wrong);
      first = λ k less (y, path, bad).
          let within : k < length list = omega (arith, less, m, part.within) in
          bad (are.right k y (not_before list q [] (0 ∷ y) from k behind within path) less (last_is list k q (0 ∷ y) within path));
    }
