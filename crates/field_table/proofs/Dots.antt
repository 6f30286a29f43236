-- Where the first dot of a path is.
use Rattle.std.proofs.Common.{◌≡◌, ℕ, ◌<◌, ◌==◌, ◌||◌, suc, Bool, false, List, [], ◌∷◌, length, take, get_or, refl, ◌∙◌, ap, arith}
use Rattle.std.specs.List.{list_any, position_or_len, before_first}
use Rattle.std.proofs.lemmas.List.Sums.{fails_before_first}
use Rattle.std.proofs.lemmas.List.{get_or-take, length-take}
use Rattle.bag_model.specs.Words.{HasNoDot}

no_any : (p : ℕ → Bool) (xs : List ℕ) → ((k : ℕ) → k < length xs → p (get_or xs k 0) ≡ false) → list_any p xs ≡ false
no_any p [] h = refl
no_any p (x ∷ xs) h = ap (λ b. b || list_any p xs) (h 0 (omega arith)) ∙ no_any p xs (λ k less. h (suc k) (omega (arith, less)))

-- What is before the first dot has none.
pub before_no_dot : (path : List ℕ) → HasNoDot (before_first (λ b. b == 46) path)
before_no_dot path =
    let n = position_or_len (λ b. b == 46) path in
    no_any (λ b. b == 46) (take n path) (λ k less.
    ap (λ b. b == 46) (get_or-take n path k 0 (omega (arith, less, length-take n path))) ∙ fails_before_first (λ b. b == 46) path k 0 (omega (arith, less, length-take n path)))

-- Where none is found, there is none.
pub all_no_dot : (path : List ℕ) → position_or_len (λ b. b == 46) path ≡ length path → HasNoDot path
all_no_dot path is = no_any (λ b. b == 46) path (λ k less. fails_before_first (λ b. b == 46) path k 0 (omega (arith, less, is)))
