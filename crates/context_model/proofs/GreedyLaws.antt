-- The laws of the greedy merge. A list of keys is a list of pairs with no values, so they are those of a merge of pairs.
use Rattle.std.proofs.Common.{◌≡◌, List, [], ◌∷◌, refl, sym, ◌∙◌, ap, subst, inl, inr, ◌⊎◌}
use Rattle.std.specs.Cmp.{IsTotalOrder}
use Rattle.std.specs.declared.cmp.Ordering.{Ordering}
use Rattle.std.specs.declared.cmp.Ordering.TheVariants.{Equal}
use Rattle.context_model.specs.Orders.{IsIn}
use Rattle.context_model.specs.GreedyMerge.{greedy_merge}
use Rattle.context_model.specs.KeyedMerge.{merge_with, keys_of, IsAt}
use Rattle.context_model.proofs.MergeLaws.{keys_of-merge_with, with-comm, with-assoc, with-idem, with-from, From, EachPair-from}

abbrev bare : {K : Type 0} → List K → List (K × Unit {0})
bare [] = []
bare (x ∷ xs) = (x, tt) ∷ bare xs

abbrev first : Unit {0} → Unit {0} → Unit {0}
first v w = v

module _ {K : Type 0} where
  keys_of-bare : (xs : List K) → keys_of (bare xs) ≡ xs
  keys_of-bare [] = refl
  keys_of-bare (x ∷ xs) = ap (λ l. x ∷ l) (keys_of-bare xs)

  pub bare-keys_of : (es : List (K × Unit {0})) → bare (keys_of es) ≡ es
  bare-keys_of [] = refl
  bare-keys_of (e ∷ es) = ap (λ l. e ∷ l) (bare-keys_of es)

  IsIn-bare : (xs : List K) (k : K) (v : Unit {0}) → IsAt k v (bare xs) → IsIn k xs
  IsIn-bare [] k v none = elim none [ ]
  IsIn-bare (x ∷ xs) k v (inl at) = inl at.0
  IsIn-bare (x ∷ xs) k v (inr at) = inr (IsIn-bare xs k v at)

  IsAt-bare : (xs : List K) (k : K) → IsIn k xs → IsAt k tt (bare xs)
  IsAt-bare [] k none = elim none [ ]
  IsAt-bare (x ∷ xs) k (inl same) = inl (same, refl)
  IsAt-bare (x ∷ xs) k (inr later) = inr (IsAt-bare xs k later)

module _ {K : Type 0} (R : K → K → Ordering) where
  merged_bare : (xs ys : List K) → keys_of (merge_with R first (bare xs) (bare ys)) ≡ greedy_merge R xs ys
  merged_bare xs ys = keys_of-merge_with R first (bare xs) (bare ys) ∙ (λ i. greedy_merge R (keys_of-bare xs i) (keys_of-bare ys i))

  bare_merged : (xs ys : List K) → bare (greedy_merge R xs ys) ≡ merge_with R first (bare xs) (bare ys)
  bare_merged xs ys = ap bare (sym (merged_bare xs ys)) ∙ bare-keys_of (merge_with R first (bare xs) (bare ys))

module _ {K : Type 0} (R : K → K → Ordering) (total : IsTotalOrder R) where
  -- A merge doesn't know which list came first, where elements that tie are equal.
  pub greedy-comm : (xs ys : List K) → ((x y : K) → IsIn x xs → IsIn y ys → R x y ≡ Equal → x ≡ y) → greedy_merge R xs ys ≡ greedy_merge R ys xs
  greedy-comm xs ys exact =
      sym (merged_bare R xs ys)
      ∙ ap keys_of (with-comm R total first (bare xs) (bare ys) (λ k j v w p q tie. (exact k j (IsIn-bare xs k v p) (IsIn-bare ys j w q) tie, refl)))
      ∙ merged_bare R ys xs

  -- Three lists can be merged in either grouping.
  pub greedy-assoc : (xs ys zs : List K) → greedy_merge R (greedy_merge R xs ys) zs ≡ greedy_merge R xs (greedy_merge R ys zs)
  greedy-assoc xs ys zs =
      sym (merged_bare R (greedy_merge R xs ys) zs)
      ∙ ap (λ l. keys_of (merge_with R first l (bare zs))) (bare_merged R xs ys)
      ∙ ap keys_of (with-assoc R total first (bare xs) (bare ys) (bare zs) (λ k j i v w u p q r s t. refl))
      ∙ ap (λ l. keys_of (merge_with R first (bare xs) l)) (sym (bare_merged R ys zs))
      ∙ merged_bare R xs (greedy_merge R ys zs)

  -- A merge of a list with itself is the list.
  pub greedy-idem : (xs : List K) → greedy_merge R xs xs ≡ xs
  greedy-idem xs =
      sym (merged_bare R xs xs)
      ∙ ap keys_of (with-idem R total first (bare xs) (EachPair-from (λ k v. first v v ≡ v) (bare xs) (λ k v at. refl)))
      ∙ keys_of-bare xs

  -- An element of a merge is an element of one of the lists.
  pub greedy-from : (xs ys : List K) (k : K) → IsIn k (greedy_merge R xs ys) → IsIn k xs ⊎ IsIn k ys
  greedy-from xs ys k p = by (with-from R first (bare xs) (bare ys) k tt (subst (IsAt k tt) (bare_merged R xs ys) (IsAt-bare (greedy_merge R xs ys) k p)))
    where
      by : From R first (bare xs) (bare ys) k tt → IsIn k xs ⊎ IsIn k ys
      by (inl at) = inl (IsIn-bare xs k tt at)
      by (inr (inl at)) = inr (IsIn-bare ys k tt at)
      by (inr (inr made)) = inl (IsIn-bare xs k made.first made.in_first)
