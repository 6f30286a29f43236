-- Loops that write the atoms of elements one after another: what is written, and what is left.
use Rattle.std.proofs.Common.{◌≡◌, ℕ, zero, suc, ◌+◌, List, [], ◌∷◌, ◌++◌, map, drop, Some, sym, ap, ◌∙◌, subst, append_assoc, add-one}
use Rattle.std.specs.List.{AllByRecursion, slice_get}
use Rattle.context_model.specs.Atoms.{Atom, AreAtoms}

-- The list that is written and the one that is left are the whole one, and what is left is within the limit.
pub record IsOnWay (whole now rest : List Atom) : Type 0 where
  pub so_far : now ++ rest ≡ whole
  pub short : AreAtoms rest

pub all_at : {X K : Type 0} (P : K → Type 0) (f : X → K) (xs : List X) (i : ℕ) (x : X) → AllByRecursion P (map f xs) → slice_get xs i ≡ Some x → P (f x)
all_at P f [] i x all at = absurd (cc at)
all_at P f (y ∷ ys) zero x all at = (let same : y ≡ x = cc at in subst (λ z. P (f z)) same all.0)
all_at P f (y ∷ ys) (suc i) x all at = all_at P f ys i x all.1 at

pub dropped : {X : Type 0} (xs : List X) (i : ℕ) (x : X) → slice_get xs i ≡ Some x → drop i xs ≡ x ∷ drop (i + 1) xs
dropped {X} xs i x at = by xs i at ∙ ap (λ n. x ∷ drop n xs) (sym (add-one i))
  where
    by : (xs : List X) (i : ℕ) → slice_get xs i ≡ Some x → drop i xs ≡ x ∷ drop (suc i) xs
    by [] i at = absurd (cc at)
    by (y ∷ ys) zero at = (let same : y ≡ x = cc at in ap (λ z. z ∷ ys) same)
    by (y ∷ ys) (suc i) at = by ys i at

-- Some of what is left is written.
pub IsOnWay-more : (whole now next step rest : List Atom) → next ≡ now ++ step → IsOnWay whole now (step ++ rest) → IsOnWay whole next rest
IsOnWay-more whole now next step rest e w = record {
  so_far = ap (λ l. l ++ rest) e ∙ append_assoc now step rest ∙ w.so_far;
  short = behind step w.short;
}
  where
    behind : (xs : List Atom) → AreAtoms (xs ++ rest) → AreAtoms rest
    behind [] short = short
    behind (x ∷ xs) short = behind xs short.1
