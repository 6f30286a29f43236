-- What is in a list.
use Rattle.std.proofs.Common.{◌↔◌, inl, inr, ℕ, zero, suc, ◌+◌, ◌<◌, ◌≤◌, List, [], ◌∷◌, length, get_or, take, map, All, Contains, refl, sym, ap, subst, arith}
use Rattle.std.proofs.lemmas.List.{take_more, take_all}
use Rattle.std.proofs.lemmas.List.Sorted.{Contains-permutation, IsPermutation-sym}
use Rattle.std.specs.List.Sorted.{IsPermutation}
use Rattle.context_model.specs.Orders.{IsIn}
use Rattle.bag_walks.proofs.Gathering.{in_push}

-- The element at a place.
pub in_get : {K : Type 0} (xs : List K) (i : ℕ) (d : K) → i < length xs → IsIn (get_or xs i d) xs
in_get [] i d h = absurd (omega arith)
in_get (x ∷ xs) zero d h = inl refl
in_get (x ∷ xs) (suc i) d h = inr (in_get xs i d (omega arith))

-- The image of an element.
pub in_map : {A B : Type 0} (f : A → B) (xs : List A) (x : A) → IsIn x xs → IsIn (f x) (map f xs)
in_map f [] x i = absurd i
in_map f (y ∷ ys) x (inl e) = inl (ap f e)
in_map f (y ∷ ys) x (inr i) = inr (in_map f ys x i)

-- What is in a list is at a place of it, and back.
pub in_from_contains : {K : Type 0} (xs : List K) (x : K) → Contains xs x → IsIn x xs
in_from_contains xs x (k, h, e) = subst (λ y. IsIn y xs) e (in_get xs k x h)

pub contains_from_in : {K : Type 0} (xs : List K) (x : K) → IsIn x xs → Contains xs x
contains_from_in [] x i = absurd i
contains_from_in (y ∷ ys) x (inl e) = (0, omega arith, sym e)
contains_from_in (y ∷ ys) x (inr i) = let (k, h, e) = contains_from_in ys x i in (suc k, omega arith, e)

-- What is in one order of a list is in each other.
pub in_permutation : {K : Type 0} (xs ys : List K) → IsPermutation xs ys → (x : K) → IsIn x xs ↔ IsIn x ys
in_permutation xs ys p x = (
  λ i. in_from_contains ys x (Contains-permutation xs ys x p (contains_from_in xs x i)),
  λ i. in_from_contains xs x (Contains-permutation ys xs x (IsPermutation-sym xs ys p) (contains_from_in ys x i)),
)

-- What holds of each element of a list, as std says it.
pub all_from_each : {K : Type 0} (P : K → Type 0) (xs : List K) → ((x : K) → IsIn x xs → P x) → All P xs
all_from_each P xs each = λ k d h. each (get_or xs k d) (in_get xs k d h)

-- ---- lists of which a loop has seen a prefix

-- One element more was seen.
pub each_more : {K : Type 0} (P : K → Type 0) (xs : List K) (i : ℕ) (d : K) → i < length xs
    → ((x : K) → IsIn x (take i xs) → P x) → P (get_or xs i d) → (x : K) → IsIn x (take (i + 1) xs) → P x
each_more P xs i d h each this x among =
    elim ((in_push (take i xs) x (get_or xs i d)).0 (subst (IsIn x) (take_more xs i d h) among)) [
      | inl before ↦ each x before
      | inr same ↦ subst P (sym same) this
    ]

-- All were seen.
pub each_all : {K : Type 0} (P : K → Type 0) (xs : List K) (i : ℕ) → length xs ≤ i
    → ((x : K) → IsIn x (take i xs) → P x) → (x : K) → IsIn x xs → P x
each_all P xs i h each x among = each x (subst (IsIn x) (sym (take_all i xs h)) among)
