-- A binary search in a list in order of a key: what one comparison says of all elements on its one side.
use Rattle.std.proofs.Common.{◌≡◌, ℕ, ◌+◌, ◌<◌, ◌≤◌, add-one, zero, suc, List, [], ◌∷◌, length, map, take, drop, get_or, refl, sym, ◌∙◌, ap, subst, inl, inr, arith}
use Rattle.std.specs.Cmp.{IsTotalOrder, tied_itself}
use Rattle.std.specs.declared.cmp.Ordering.{Ordering}
use Rattle.std.specs.declared.cmp.Ordering.TheVariants.{Less, Greater}
use Rattle.std.specs.Ordering.{ordering_reverse}
use Rattle.context_model.specs.Orders.{IsIn, Rises}
use Rattle.context_model.specs.KeyedMerge.{keys_of, IsAt}
use Rattle.context_model.proofs.Rising.{Rises-before, Rises-tail}

module _ {E K : Type 0} (key : E → K) (R : K → K → Ordering) where
  -- the keys of all elements come before k
  abbrev pub Before : K → List E → Type 0
  Before k [] = Unit {0}
  Before k (x ∷ xs) = (R (key x) k ≡ Less) × Before k xs

  -- the keys of all elements come after k
  abbrev pub Behind : K → List E → Type 0
  Behind k [] = Unit {0}
  Behind k (x ∷ xs) = (R (key x) k ≡ Greater) × Behind k xs

  pub IsIn-place : (xs : List E) (i : ℕ) (e : E) → i < length xs → e ≡ get_or xs i e → IsIn (key e) (map key xs)
  IsIn-place [] i e h is = absurd (omega (arith, h))
  IsIn-place (x ∷ xs) zero e h is = inl (ap key is)
  IsIn-place (x ∷ xs) (suc i) e h is = inr (IsIn-place xs i e (omega (arith, h)) is)

module _ {E K : Type 0} (key : E → K) (R : K → K → Ordering) (total : IsTotalOrder R) where
  -- Where the element at a place comes before k, so does each up to it.
  pub before_more : (k : K) (xs : List E) (i : ℕ) (e : E) → Rises R (map key xs) → i < length xs → e ≡ get_or xs i e → R (key e) k ≡ Less → Before key R k (take (suc i) xs)
  before_more k [] i e rises h is less = absurd (omega (arith, h))
  before_more k (x ∷ xs) zero e rises h is less = (let P : E → Type 0 = λ y. R (key y) k ≡ Less in subst P is less, tt)
  before_more k (x ∷ xs) (suc i) e rises h is less =
      let within : i < length xs = omega (arith, h) in (
        total.trans (key x) (key e) k (Rises-before R total (key x) (map key xs) rises (key e) (IsIn-place key R xs i e within is)) less,
        before_more k xs i e (Rises-tail R (key x) (map key xs) rises) within is less,
      )

  behind_all : (k a : K) (xs : List E) → R k a ≡ Less → ((y : K) → IsIn y (map key xs) → R a y ≡ Less) → Behind key R k xs
  behind_all k a [] h later = tt
  behind_all k a (x ∷ xs) h later = (total.antisymm (key x) k ∙ ap ordering_reverse (total.trans k a (key x) h (later (key x) (inl refl))), behind_all k a xs h (λ y at. later y (inr at)))

  -- Where the element at a place comes after k, so does each from it on.
  pub behind_from : (k : K) (xs : List E) (i : ℕ) (e : E) → Rises R (map key xs) → i < length xs → e ≡ get_or xs i e → R (key e) k ≡ Greater → Behind key R k (drop i xs)
  behind_from k [] i e rises h is greater = absurd (omega (arith, h))
  behind_from k (x ∷ xs) zero e rises h is greater =
      let at_x : R (key x) k ≡ Greater = (let P : E → Type 0 = λ y. R (key y) k ≡ Greater in subst P is greater) in
      let back : R k (key x) ≡ Less = total.antisymm k (key x) ∙ ap ordering_reverse at_x in
      (at_x, behind_all k (key x) xs back (Rises-before R total (key x) (map key xs) rises))
  behind_from k (x ∷ xs) (suc i) e rises h is greater = behind_from k xs i e (Rises-tail R (key x) (map key xs) rises) (omega (arith, h)) is greater

  all_behind : (k : K) (xs : List E) → Behind key R k xs → IsIn k (map key xs) → ⊥
  all_behind k [] behind none = elim none [ ]
  all_behind k (x ∷ xs) behind (inl same) = let P : K → Type 0 = λ y. R y k ≡ Greater in let at_k : R k k ≡ Greater = subst P (sym same) behind.0 in let tie = tied_itself total k in cc
  all_behind k (x ∷ xs) behind (inr later) = all_behind k xs behind.1 later

  -- Where all elements of a prefix come before k, and all others after it, no element has it.
  pub absent : (k : K) (xs : List E) (n : ℕ) → Before key R k (take n xs) → Behind key R k (drop n xs) → IsIn k (map key xs) → ⊥
  absent k [] n before behind none = elim none [ ]
  absent k (x ∷ xs) zero before behind at = all_behind k (x ∷ xs) behind at
  absent k (x ∷ xs) (suc n) before behind (inl same) = let P : K → Type 0 = λ y. R y k ≡ Less in let at_k : R k k ≡ Less = subst P (sym same) before.0 in let tie = tied_itself total k in cc
  absent k (x ∷ xs) (suc n) before behind (inr later) = absent k xs n before.1 behind later

module _ {K X : Type 0} where
  pub map-keys_of : (es : List (K × X)) → map (λ e. e.0) es ≡ keys_of es
  map-keys_of [] = refl
  map-keys_of (e ∷ es) = ap (λ l. e.0 ∷ l) (map-keys_of es)

  -- The pair at a place is a pair of the list.
  pub IsAt-place : (es : List (K × X)) (i : ℕ) (e : K × X) → i < length es → e ≡ get_or es i e → IsAt e.0 e.1 es
  IsAt-place [] i e h is = absurd (omega (arith, h))
  IsAt-place (x ∷ xs) zero e h is = inl (ap (λ p. p.0) is, ap (λ p. p.1) is)
  IsAt-place (x ∷ xs) (suc i) e h is = inr (IsAt-place xs i e (omega (arith, h)) is)

module _ {K X : Type 0} (R : K → K → Ordering) (total : IsTotalOrder R) (k : K) (es : List (K × X)) (rises : Rises R (keys_of es)) (i : ℕ) (e : K × X) (within : i < length es) (is : e ≡ get_or es i e) where
  mapped : Rises R (map (λ d. d.0) es)
  mapped = subst (Rises R) (sym (map-keys_of es)) rises

  pub pairs_before : R e.0 k ≡ Less → Before (λ d. d.0) R k (take (i + 1) es)
  pairs_before less = rw (add-one i) (before_more (λ d. d.0) R total k es i e mapped within is less)

  pub pairs_behind : R e.0 k ≡ Greater → Behind (λ d. d.0) R k (drop i es)
  pairs_behind greater = behind_from (λ d. d.0) R total k es i e mapped within is greater

module _ {K X : Type 0} (R : K → K → Ordering) (total : IsTotalOrder R) where
  pub pairs_absent : (k : K) (es : List (K × X)) (low high : ℕ) → high ≤ low → low ≤ high → Before (λ d. d.0) R k (take low es) → Behind (λ d. d.0) R k (drop high es) → IsIn k (keys_of es) → ⊥
  pairs_absent k es low high p q before behind at =
      let same : high ≡ low = omega arith in
      absent (λ d. d.0) R total k es low before (let P : ℕ → Type 0 = λ n. Behind (λ d. d.0) R k (drop n es) in subst P same behind) (subst (IsIn k) (sym (map-keys_of es)) at)
