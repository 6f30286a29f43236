-- What is in a merge: everything that is in one of the lists, and at a key of both what is made of
-- both values.
use Rattle.std.proofs.Common.{◌≡◌, List, [], ◌∷◌, refl, sym, ◌∙◌, ap, subst, inl, inr, ◌⊎◌}
use Rattle.std.specs.Cmp.{IsTotalOrder, tied_itself, tied_back}
use Rattle.std.specs.Ordering.{ordering_reverse}
use Rattle.std.specs.declared.cmp.Ordering.{Ordering}
use Rattle.std.specs.declared.cmp.Ordering.TheVariants.{Less, Equal, Greater}
use Rattle.context_model.specs.Orders.{IsIn, Rises}
use Rattle.context_model.specs.GreedyMerge.{greedy_merge}
use Rattle.context_model.specs.KeyedMerge.{merge_with, keys_of, IsAt, IsUnion}
use Rattle.context_model.proofs.TwoLists.{two_lists}
use Rattle.context_model.proofs.Rising.{Rises-before, Rises-tail, greedy-right_empty, greedy-less, greedy-equal, greedy-greater}
use Rattle.context_model.proofs.MergeLaws.{with-less, with-equal, with-greater, with-from, From, keys_of-merge_with, IsIn-keys_of, IsAt-unique}
use Rattle.context_model.proofs.GreedyLaws.{greedy-from}

module _ {K : Type 0} (R : K → K → Ordering) (total : IsTotalOrder R) where
  abbrev Exact : List K → List K → Type 0
  Exact xs ys = (x y : K) → IsIn x xs → IsIn y ys → R x y ≡ Equal → x ≡ y

  abbrev HoldsBoth : List K → List K → Type 0
  HoldsBoth xs ys = Exact xs ys → (k : K) → IsIn k xs ⊎ IsIn k ys → IsIn k (greedy_merge R xs ys)

  holds_step : (x y : K) (xs ys : List K) → HoldsBoth xs (y ∷ ys) → HoldsBoth xs ys → HoldsBoth (x ∷ xs) ys → HoldsBoth (x ∷ xs) (y ∷ ys)
  holds_step x y xs ys less both more exact k at = by (R x y) refl at
    where
      by : (r : Ordering) → R x y ≡ r → IsIn k (x ∷ xs) ⊎ IsIn k (y ∷ ys) → IsIn k (greedy_merge R (x ∷ xs) (y ∷ ys))
      by Less h (inl (inl same)) = subst (IsIn k) (sym (greedy-less R x y xs ys h)) (inl same)
      by Less h (inl (inr at)) = subst (IsIn k) (sym (greedy-less R x y xs ys h)) (inr (less (λ a b p q. exact a b (inr p) q) k (inl at)))
      by Less h (inr at) = subst (IsIn k) (sym (greedy-less R x y xs ys h)) (inr (less (λ a b p q. exact a b (inr p) q) k (inr at)))
      by Equal h (inl (inl same)) = subst (IsIn k) (sym (greedy-equal R x y xs ys h)) (inl same)
      by Equal h (inl (inr at)) = subst (IsIn k) (sym (greedy-equal R x y xs ys h)) (inr (both (λ a b p q. exact a b (inr p) (inr q)) k (inl at)))
      by Equal h (inr (inl same)) = subst (IsIn k) (sym (greedy-equal R x y xs ys h)) (inl (same ∙ sym (exact x y (inl refl) (inl refl) h)))
      by Equal h (inr (inr at)) = subst (IsIn k) (sym (greedy-equal R x y xs ys h)) (inr (both (λ a b p q. exact a b (inr p) (inr q)) k (inr at)))
      by Greater h (inl at) = subst (IsIn k) (sym (greedy-greater R x y xs ys h)) (inr (more (λ a b p q. exact a b p (inr q)) k (inl at)))
      by Greater h (inr (inl same)) = subst (IsIn k) (sym (greedy-greater R x y xs ys h)) (inl same)
      by Greater h (inr (inr at)) = subst (IsIn k) (sym (greedy-greater R x y xs ys h)) (inr (more (λ a b p q. exact a b p (inr q)) k (inr at)))

  -- Each element of one of the lists is an element of the merge.
  pub greedy-holds : (xs ys : List K) → ((x y : K) → IsIn x xs → IsIn y ys → R x y ≡ Equal → x ≡ y) → (k : K) → IsIn k xs ⊎ IsIn k ys → IsIn k (greedy_merge R xs ys)
  greedy-holds = two_lists HoldsBoth none_first none_second holds_step
    where
      none_first : (ys : List K) → HoldsBoth [] ys
      none_first ys exact k (inl none) = elim none [ ]
      none_first ys exact k (inr at) = at

      none_second : (xs : List K) → HoldsBoth xs []
      none_second xs exact k (inl at) = subst (IsIn k) (sym (greedy-right_empty R xs)) at
      none_second xs exact k (inr none) = elim none [ ]

module _ {K X : Type 0} (R : K → K → Ordering) (total : IsTotalOrder R) (f : X → X → X) where
  -- the key of a list in order that begins after k is not k
  behind_first : (k : K) (d : K × X) (ds : List (K × X)) (v : X) → Rises R (keys_of (d ∷ ds)) → R k d.0 ≡ Less → IsAt k v (d ∷ ds) → ⊥
  behind_first k d ds v rises less (inl at) =
      let P : K → Type 0 = λ j. R k j ≡ Less in
      let self : R k k ≡ Less = subst P (sym at.0) less in
      let tie = tied_itself total k in
      cc
  behind_first k d ds v rises less (inr at) =
      let later : R k k ≡ Less = total.trans k d.0 k less (Rises-before R total d.0 (keys_of ds) rises k (IsIn-keys_of ds k v at)) in
      let tie = tied_itself total k in
      cc

  abbrev Meets : List (K × X) → List (K × X) → Type 0
  Meets es ds = Rises R (keys_of es) → Rises R (keys_of ds) → (k : K) (v w : X) → IsAt k v es → IsAt k w ds → IsAt k (f v w) (merge_with R f es ds)

  meets_step : (e d : K × X) (es ds : List (K × X)) → Meets es (d ∷ ds) → Meets es ds → Meets (e ∷ es) ds → Meets (e ∷ es) (d ∷ ds)
  meets_step e d es ds less both more p q k v w s t = by (R e.0 d.0) refl s t
    where
      p' : Rises R (keys_of es)
      p' = Rises-tail R e.0 (keys_of es) p

      q' : Rises R (keys_of ds)
      q' = Rises-tail R d.0 (keys_of ds) q

      by : (r : Ordering) → R e.0 d.0 ≡ r → IsAt k v (e ∷ es) → IsAt k w (d ∷ ds) → IsAt k (f v w) (merge_with R f (e ∷ es) (d ∷ ds))
      by Less h (inl at) also = let P : K → Type 0 = λ j. R j d.0 ≡ Less in absurd (behind_first k d ds w q (subst P (sym at.0) h) also)
      by Less h (inr at) also = subst (IsAt k (f v w)) (sym (with-less R f e d es ds h)) (inr (less p' q k v w at also))
      by Equal h (inl at) (inl also) = subst (IsAt k (f v w)) (sym (with-equal R f e d es ds h)) (inl (at.0, λ i. f (at.1 i) (also.1 i)))
      by Equal h (inl at) (inr also) =
          let P : K → Type 0 = λ j. R d.0 j ≡ Less in
          let before : R d.0 e.0 ≡ Less = subst P at.0 (Rises-before R total d.0 (keys_of ds) q k (IsIn-keys_of ds k w also)) in
          let tie = tied_back total e.0 d.0 h in
          cc
      by Equal h (inr at) (inl also) =
          let P : K → Type 0 = λ j. R e.0 j ≡ Less in
          let before : R e.0 d.0 ≡ Less = subst P also.0 (Rises-before R total e.0 (keys_of es) p k (IsIn-keys_of es k v at)) in
          cc
      by Equal h (inr at) (inr also) = subst (IsAt k (f v w)) (sym (with-equal R f e d es ds h)) (inr (both p' q' k v w at also))
      by Greater h at (inl also) =
          let back : R d.0 e.0 ≡ Less = total.antisymm d.0 e.0 ∙ ap ordering_reverse h in
          let P : K → Type 0 = λ j. R j e.0 ≡ Less in
          absurd (behind_first k e es v p (subst P (sym also.0) back) at)
      by Greater h at (inr also) = subst (IsAt k (f v w)) (sym (with-greater R f e d es ds h)) (inr (more p q' k v w at also))

  -- A key of both lists has what is made of both values.
  pub with-meets : (es ds : List (K × X)) → Rises R (keys_of es) → Rises R (keys_of ds) → (k : K) (v w : X) → IsAt k v es → IsAt k w ds → IsAt k (f v w) (merge_with R f es ds)
  with-meets = two_lists Meets (λ ds p q k v w none at. elim none [ ]) (λ es p q k v w at none. elim none [ ]) meets_step

-- a value at a key
pub record HasValue {K X : Type 0} (k : K) (es : List (K × X)) : Type 0 where
  pub value : X
  pub at : IsAt k value es

module _ {K X : Type 0} where
  -- Each key has a value.
  pub value_of_key : (es : List (K × X)) (k : K) → IsIn k (keys_of es) → HasValue k es
  value_of_key [] k none = elim none [ ]
  value_of_key (e ∷ es) k (inl same) = record { value = e.1; at = inl (same, refl) }
  value_of_key (e ∷ es) k (inr later) = let rest = value_of_key es k later in record { value = rest.value; at = inr rest.at }

module _ {K X : Type 0} (R : K → K → Ordering) (total : IsTotalOrder R) (f : X → X → X) where
  -- Two lists in order whose tied keys are equal: their merge is their union.
  pub with-union : (es ds : List (K × X)) → Rises R (keys_of es) → Rises R (keys_of ds) → ((x y : K) → IsIn x (keys_of es) → IsIn y (keys_of ds) → R x y ≡ Equal → x ≡ y) → IsUnion f es ds (merge_with R f es ds)
  with-union es ds p q exact = record {
    keys = λ k. (
      λ at. greedy-from R total (keys_of es) (keys_of ds) k (subst (IsIn k) (keys_of-merge_with R f es ds) at),
      λ at. subst (IsIn k) (sym (keys_of-merge_with R f es ds)) (greedy-holds R total (keys_of es) (keys_of ds) exact k at),
    );
    both = λ k v w s t. with-meets R total f es ds p q k v w s t;
    first = λ k v s none. first_alone k v s none;
    second = λ k w none t. second_alone k w none t;
  }
    where
      merged_key : (k : K) → IsIn k (keys_of es) ⊎ IsIn k (keys_of ds) → HasValue k (merge_with R f es ds)
      merged_key k at = value_of_key (merge_with R f es ds) k (subst (IsIn k) (sym (keys_of-merge_with R f es ds)) (greedy-holds R total (keys_of es) (keys_of ds) exact k at))

      of_first : (k : K) (v u : X) → IsAt k v es → (IsIn k (keys_of ds) → ⊥) → From R f es ds k u → u ≡ v
      of_first k v u s none (inl at) = IsAt-unique R total es k u v p at s
      of_first k v u s none (inr (inl at)) = absurd (none (IsIn-keys_of ds k u at))
      of_first k v u s none (inr (inr m)) = absurd (none (subst (λ j. IsIn j (keys_of ds)) (sym (exact k m.other (IsIn-keys_of es k m.first m.in_first) (IsIn-keys_of ds m.other m.second m.in_second) m.tied)) (IsIn-keys_of ds m.other m.second m.in_second)))

      of_second : (k : K) (w u : X) → (IsIn k (keys_of es) → ⊥) → IsAt k w ds → From R f es ds k u → u ≡ w
      of_second k w u none t (inl at) = absurd (none (IsIn-keys_of es k u at))
      of_second k w u none t (inr (inl at)) = IsAt-unique R total ds k u w q at t
      of_second k w u none t (inr (inr m)) = absurd (none (IsIn-keys_of es k m.first m.in_first))

      first_alone : (k : K) (v : X) → IsAt k v es → (IsIn k (keys_of ds) → ⊥) → IsAt k v (merge_with R f es ds)
      first_alone k v s none = let held = merged_key k (inl (IsIn-keys_of es k v s)) in
          subst (λ u. IsAt k u (merge_with R f es ds)) (of_first k v held.value s none (with-from R f es ds k held.value held.at)) held.at

      second_alone : (k : K) (w : X) → (IsIn k (keys_of es) → ⊥) → IsAt k w ds → IsAt k w (merge_with R f es ds)
      second_alone k w none t = let held = merged_key k (inr (IsIn-keys_of ds k w t)) in
          subst (λ u. IsAt k u (merge_with R f es ds)) (of_second k w held.value none t (with-from R f es ds k held.value held.at)) held.at
