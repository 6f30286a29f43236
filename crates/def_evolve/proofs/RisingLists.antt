-- Lists in order one after another.
use Rattle.std.proofs.Common.{◌≡◌, inl, inr, List, [], ◌∷◌, ◌++◌, Ordering, Less, refl}
use Rattle.context_model.specs.Orders.{IsIn, Rises}

-- They are in order together where each element of the first comes before each of the second.
pub rises_append : {K : Type 0} (R : K → K → Ordering) (xs ys : List K) → Rises R xs → Rises R ys
    → ((x y : K) → IsIn x xs → IsIn y ys → R x y ≡ Less) → Rises R (xs ++ ys)
rises_append R [] ys p q f = q
rises_append R (x ∷ []) [] p q f = tt
rises_append R (x ∷ []) (y ∷ ys) p q f = (f x y (inl refl) (inl refl), q)
rises_append R (x ∷ z ∷ xs) ys p q f = (p.0, rises_append R (z ∷ xs) ys p.1 q (λ a b i j. f a b (inr i) j))
