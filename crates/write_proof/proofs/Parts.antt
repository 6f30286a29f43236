-- Parts of a list that are gone through one by one.
use Rattle.std.proofs.Common.{◌≡◌, ◌⊎◌, inl, inr, ℕ, zero, suc, ◌+◌, ◌<◌, ◌≤◌, List, [], ◌∷◌, length, map, take, get_or, sym, ap, ◌∙◌, subst, add-one, arith}
use Rattle.context_model.specs.Orders.{IsIn}

module _ {A B : Type 0} (f : A → B) where
  -- An element at a place is one of the list.
  pub in_items : (xs : List A) (i : ℕ) (x : A) → i < length xs → x ≡ get_or xs i x → IsIn (f x) (map f xs)
  in_items [] i x l e = absurd (omega (arith, l))
  in_items (y ∷ xs) zero x l e = inl (ap f e)
  in_items (y ∷ xs) (suc i) x l e = inr (in_items xs i x (omega (arith, l)) e)

  taken_more : (xs : List A) (i : ℕ) (x : A) → i < length xs → x ≡ get_or xs i x → (y : B) → IsIn y (map f (take (suc i) xs)) → IsIn y (map f (take i xs)) ⊎ (y ≡ f x)
  taken_more [] i x l e y j = absurd (omega (arith, l))
  taken_more (z ∷ xs) zero x l e y (inl same) = inr (same ∙ ap f (sym e))
  taken_more (z ∷ xs) zero x l e y (inr j) = absurd j
  taken_more (z ∷ xs) (suc i) x l e y (inl same) = inl (inl same)
  taken_more (z ∷ xs) (suc i) x l e y (inr j) = elim (taken_more xs i x (omega (arith, l)) e y j) [ inl k ↦ inl (inr k) | inr k ↦ inr k ]

  -- One element more is gone through.
  pub through_more : (D : B → Type 0) (xs : List A) (i : ℕ) (x : A) → i < length xs → x ≡ get_or xs i x → ((y : B) → IsIn y (map f (take i xs)) → D y) → D (f x)
      → (y : B) → IsIn y (map f (take (i + 1) xs)) → D y
  through_more D xs i x l e before own y j =
      elim (taken_more xs i x l e y (subst (λ n. IsIn y (map f (take n xs))) (add-one i) j)) [ inl k ↦ before y k | inr same ↦ subst D (sym same) own ]

  taken_all : (xs : List A) (i : ℕ) → length xs ≤ i → (y : B) → IsIn y (map f xs) → IsIn y (map f (take i xs))
  taken_all [] i l y j = absurd j
  taken_all (x ∷ xs) zero l y j = absurd (omega (arith, l))
  taken_all (x ∷ xs) (suc i) l y (inl e) = inl e
  taken_all (x ∷ xs) (suc i) l y (inr j) = inr (taken_all xs i (omega (arith, l)) y j)

  -- All are gone through.
  pub through_all : (D : B → Type 0) (xs : List A) (i : ℕ) → length xs ≤ i → ((y : B) → IsIn y (map f (take i xs)) → D y) → (y : B) → IsIn y (map f xs) → D y
  through_all D xs i l before y j = before y (taken_all xs i l y j)
