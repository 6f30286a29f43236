-- Objects in their places.
use Rattle.std.proofs.Common.{◌≡◌, ◌⊎◌, inl, inr, ℕ, zero, suc, ◌+◌, List, [], ◌∷◌, ◌++◌, length, Some, refl, sym, ap, ap₂, ◌∙◌, subst, arith, length-append}
use Rattle.std.specs.List.{slice_get}
use Rattle.serde_json.specs.Data.{Data}
use Rattle.context_json.specs.Objects.{AreInPlace}

-- What is found in a list with one item more.
get_more : {A : Type 0} (xs : List A) (x : A) (place : ℕ) (y : A) → slice_get (xs ++ x ∷ []) place ≡ Some y
    → (slice_get xs place ≡ Some y) ⊎ ((place ≡ length xs) × (x ≡ y))
get_more [] x zero y is = let same : x ≡ y = cc is in inr (refl, same)
get_more [] x (suc place) y is = absurd (cc is)
get_more (z ∷ xs) x zero y is = inl is
get_more (z ∷ xs) x (suc place) y is = elim (get_more xs x place y is) [ inl before ↦ inl before | inr here ↦ inr (ap suc here.0, here.1) ]

-- One object more at the end.
pub one_placed : (IsRight : ℕ → Data → Type 0) (count : ℕ) (objects : List Data) (d : Data) → AreInPlace count IsRight objects → IsRight count d → AreInPlace (count + 1) IsRight (objects ++ d ∷ [])
one_placed IsRight count objects d (many, each) last = (
  length-append objects (d ∷ []) ∙ ap (λ (n : ℕ). n + 1) many,
  λ place e is. elim (get_more objects d place e is) [
    | inl before ↦ each place e before
    | inr here ↦ subst (λ (n : ℕ). IsRight n e) (sym (here.0 ∙ many)) (subst (IsRight count) here.1 last)
  ],
)

-- Where each place has one right object, there is one list.
pub one_list : (IsRight : ℕ → Data → Type 0) (count : ℕ) (xs ys : List Data) → ((place : ℕ) (a b : Data) → IsRight place a → IsRight place b → a ≡ b) → AreInPlace count IsRight xs → AreInPlace count IsRight ys → xs ≡ ys
one_list IsRight count [] [] one p q = refl
one_list IsRight count [] (y ∷ ys) one p q = absurd (omega (arith, p.0, q.0))
one_list IsRight count (x ∷ xs) [] one p q = absurd (omega (arith, p.0, q.0))
one_list IsRight count (x ∷ xs) (y ∷ ys) one (many, each) (also, every) =
    ap₂ (λ (d : Data) (l : List Data). d ∷ l) (one 0 x y (each 0 x refl) (every 0 y refl))
    (one_list (λ place d. IsRight (suc place) d) (length xs) xs ys (λ place. one (suc place)) (refl, λ place. each (suc place)) ((let same : length ys ≡ length xs = omega (arith, many, also) in same), λ place. every (suc place)))
