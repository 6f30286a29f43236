-- The elements of a greedy merge are those of both lists, and a list in order is known by its elements.
use Rattle.std.proofs.Common.{◌≡◌, List, [], ◌∷◌, refl, sym, ◌∙◌, subst, inl, inr, ◌⊎◌, ◌↔◌}
use Rattle.std.specs.List.{AllByRecursion}
use Rattle.std.specs.Cmp.{IsTotalOrder}
use Rattle.std.specs.FinMap.{IsAntisymmetric}
use Rattle.std.specs.declared.cmp.Ordering.{Ordering}
use Rattle.std.specs.declared.cmp.Ordering.TheVariants.{Less, Equal, Greater}
use Rattle.context_model.specs.Orders.{IsIn, Rises}
use Rattle.context_model.specs.GreedyMerge.{greedy_merge}
use Rattle.context_model.proofs.TwoLists.{two_lists}
use Rattle.context_model.proofs.GreedyLaws.{greedy-from}
use Rattle.context_model.proofs.Rising.{greedy-right_empty, greedy-less, greedy-equal, greedy-greater, Rises-before, Rises-tail, not_behind}

module _ {K : Type 0} (P : K → Type 0) where
  -- What holds of each element holds of one.
  pub All-at : (xs : List K) (k : K) → AllByRecursion P xs → IsIn k xs → P k
  All-at [] k each none = elim none [ ]
  All-at (x ∷ xs) k each (inl same) = subst P (sym same) each.0
  All-at (x ∷ xs) k each (inr later) = All-at xs k each.1 later

  -- What holds of any one element holds of each.
  pub All-from : (xs : List K) → ((k : K) → IsIn k xs → P k) → AllByRecursion P xs
  All-from [] any = tt
  All-from (x ∷ xs) any = (any x (inl refl), All-from xs (λ k i. any k (inr i)))

module _ {K : Type 0} (R : K → K → Ordering) where
  abbrev KeepsFirst : List K → List K → Type 0
  KeepsFirst xs ys = (k : K) → IsIn k xs → IsIn k (greedy_merge R xs ys)

  first_step : (x y : K) (xs ys : List K) → KeepsFirst xs (y ∷ ys) → KeepsFirst xs ys → KeepsFirst (x ∷ xs) ys → KeepsFirst (x ∷ xs) (y ∷ ys)
  first_step x y xs ys less both more k i = by (R x y) refl
    where
      head : (rest : List K) → (IsIn k xs → IsIn k rest) → IsIn k (x ∷ xs) → IsIn k (x ∷ rest)
      head rest f (inl e) = inl e
      head rest f (inr j) = inr (f j)

      by : (r : Ordering) → R x y ≡ r → IsIn k (greedy_merge R (x ∷ xs) (y ∷ ys))
      by Less h = subst (IsIn k) (sym (greedy-less R x y xs ys h)) (head (greedy_merge R xs (y ∷ ys)) (less k) i)
      by Equal h = subst (IsIn k) (sym (greedy-equal R x y xs ys h)) (head (greedy_merge R xs ys) (both k) i)
      by Greater h = subst (IsIn k) (sym (greedy-greater R x y xs ys h)) (inr (more k i))

  -- An element of the first list is one of the merge.
  pub greedy-first : (xs ys : List K) (k : K) → IsIn k xs → IsIn k (greedy_merge R xs ys)
  greedy-first = two_lists KeepsFirst (λ ys k none. elim none [ ]) (λ xs k i. subst (IsIn k) (sym (greedy-right_empty R xs)) i) first_step

module _ {K : Type 0} (R : K → K → Ordering) (anti : IsAntisymmetric R) where
  abbrev KeepsSecond : List K → List K → Type 0
  KeepsSecond xs ys = (k : K) → IsIn k ys → IsIn k (greedy_merge R xs ys)

  second_step : (x y : K) (xs ys : List K) → KeepsSecond xs (y ∷ ys) → KeepsSecond xs ys → KeepsSecond (x ∷ xs) ys → KeepsSecond (x ∷ xs) (y ∷ ys)
  second_step x y xs ys less both more k i = by (R x y) refl
    where
      head : (z : K) (rest : List K) → y ≡ z → (IsIn k ys → IsIn k rest) → IsIn k (y ∷ ys) → IsIn k (z ∷ rest)
      head z rest same f (inl e) = inl (e ∙ same)
      head z rest same f (inr j) = inr (f j)

      by : (r : Ordering) → R x y ≡ r → IsIn k (greedy_merge R (x ∷ xs) (y ∷ ys))
      by Less h = subst (IsIn k) (sym (greedy-less R x y xs ys h)) (inr (less k i))
      by Equal h = subst (IsIn k) (sym (greedy-equal R x y xs ys h)) (head x (greedy_merge R xs ys) (sym (anti x y h)) (both k) i)
      by Greater h = subst (IsIn k) (sym (greedy-greater R x y xs ys h)) (head y (greedy_merge R (x ∷ xs) ys) refl (more k) i)

  -- An element of the second list is one of the merge, where elements that tie are equal.
  pub greedy-second : (xs ys : List K) (k : K) → IsIn k ys → IsIn k (greedy_merge R xs ys)
  greedy-second = two_lists KeepsSecond (λ ys k i. i) (λ xs k none. elim none [ ]) second_step

module _ {K : Type 0} (R : K → K → Ordering) (total : IsTotalOrder R) (anti : IsAntisymmetric R) where
  -- The elements of a merge are those of both lists.
  pub IsIn-greedy : (xs ys : List K) (k : K) → IsIn k (greedy_merge R xs ys) ↔ (IsIn k xs ⊎ IsIn k ys)
  IsIn-greedy xs ys k = ((λ i. greedy-from R total xs ys k i), λ s. elim s [ inl i ↦ greedy-first R xs ys k i | inr i ↦ greedy-second R anti xs ys k i ])

  -- What holds of each element of both lists holds of each of the merge.
  pub All-greedy : (P : K → Type 0) (xs ys : List K) → AllByRecursion P xs → AllByRecursion P ys → AllByRecursion P (greedy_merge R xs ys)
  All-greedy P xs ys f g = All-from P (greedy_merge R xs ys) (λ k i. elim (greedy-from R total xs ys k i) [ inl j ↦ All-at P xs k f j | inr j ↦ All-at P ys k g j ])

module _ {K : Type 0} (R : K → K → Ordering) (total : IsTotalOrder R) where
  -- Two lists in order with the same elements are equal.
  pub Rises-unique : (xs ys : List K) → Rises R xs → Rises R ys → ((k : K) → IsIn k xs ↔ IsIn k ys) → xs ≡ ys
  Rises-unique [] [] p q same = refl
  Rises-unique [] (y ∷ ys) p q same = absurd ((same y).1 (inl refl))
  Rises-unique (x ∷ xs) [] p q same = absurd ((same x).0 (inl refl))
  Rises-unique (x ∷ xs) (y ∷ ys) p q same =
      let e : x ≡ y = heads ((same x).0 (inl refl)) ((same y).1 (inl refl)) in
      let rest : xs ≡ ys = Rises-unique xs ys (Rises-tail R x xs p) (Rises-tail R y ys q) (λ k. ((λ i. tail y ys k (not_first x xs k p e i) ((same k).0 (inr i))), λ i. tail x xs k (not_first y ys k q (sym e) i) ((same k).1 (inr i)))) in
      λ i. e i ∷ rest i
    where
      heads : IsIn x (y ∷ ys) → IsIn y (x ∷ xs) → x ≡ y
      heads (inl e) i = e
      heads (inr j) (inl e) = sym e
      heads (inr j) (inr i) =
          let up = Rises-before R total x xs p y i in
          let down = Rises-before R total y ys q x j in
          absurd (cc (total.antisymm x y, up, down))

      not_first : (z : K) (zs : List K) (k : K) → Rises R (z ∷ zs) → {w : K} → z ≡ w → IsIn k zs → k ≡ w → ⊥
      not_first z zs k rises e i same = not_behind R total z zs k rises (same ∙ sym e) i

      tail : (z : K) (zs : List K) (k : K) → (k ≡ z → ⊥) → IsIn k (z ∷ zs) → IsIn k zs
      tail z zs k n (inl e) = absurd (n e)
      tail z zs k n (inr i) = i
