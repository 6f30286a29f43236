-- Lists by their places.
use Rattle.std.proofs.Common.{◌≡◌, inl, inr, ℕ, zero, suc, ◌<◌, List, [], ◌∷◌, length, map, get_or, refl, subst, All, arith}
use Rattle.std.proofs.lemmas.List.{get_or_default}
use Rattle.context_model.specs.Atoms.{Atom}
use Rattle.context_model.specs.Orders.{IsIn}
use Rattle.trace_model.specs.Runs.{Lists, list_at}
use Rattle.step_rules.specs.Parents.{AreWithinLists}

in_at : (xs : List ℕ) (k : ℕ) → k < length xs → IsIn (get_or xs k 0) xs
in_at [] k l = absurd (omega (arith, l))
in_at (x ∷ xs) zero l = inl refl
in_at (x ∷ xs) (suc k) l = inr (in_at xs k (omega (arith, l)))

-- Each place is within the lists.
pub place_within : (pool : Lists) (places : List ℕ) (k : ℕ) → AreWithinLists pool places → k < length places → get_or places k 0 < length pool
place_within pool places k within l = within (get_or places k 0) (in_at places k l)

-- The list at the first place is the first of the lists at the places.
pub first_list : (pool : Lists) (places : List ℕ) (list : List Atom) → 0 < length places → list ≡ list_at pool (get_or places 0 0) → list ≡ list_at (map (list_at pool) places) 0
first_list pool [] list l e = absurd (omega (arith, l))
first_list pool (place ∷ places) list l e = e

-- So they all are, by their places.
pub all_within : (pool : Lists) (places : List ℕ) → AreWithinLists pool places → All (λ place. place < length pool) places
all_within pool places within k d l = subst (λ (place : ℕ). place < length pool) (get_or_default places k 0 d l) (place_within pool places k within l)
