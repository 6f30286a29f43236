-- Keys with values: what holds of the pairs of a merge, when two lists of pairs are one, and the entries of a map as such a
-- list.
use Rattle.std.proofs.Common.{◌≡◌, ◌⊎◌, inl, inr, List, [], ◌∷◌, Ordering, Less, Equal, Greater, refl, sym, ap, ◌∙◌, subst}
use Rattle.std.specs.Cmp.{IsTotalOrder, tied_itself}
use Rattle.std.specs.FinMap.{IsAntisymmetric}
use Rattle.context_model.specs.Orders.{IsIn, Rises}
use Rattle.context_model.specs.KeyedMerge.{merge_with, keys_of, EachPair, IsAt, IsUnion}
use Rattle.context_model.proofs.MergeLaws.{EachPair-at, EachPair-from, IsIn-keys_of, IsAt-unique, keys_of-merge_with}
use Rattle.context_model.proofs.Meets.{HasValue, value_of_key, with-union}
use Rattle.context_model.proofs.Rising.{Rises-greedy}
use Rattle.bag_model.specs.Scalars.{ScalarValue, scalar_cmp}
use Rattle.bag_model.specs.Values.{Value, Entries, no_entry, entry, pairs}
use Rattle.bag_model.specs.Joins.{join, join_entries}

module _ {K : Type 0} (R : K → K → Ordering) (total : IsTotalOrder R) (anti : IsAntisymmetric R) where
  -- An element is in a list or not.
  pub is_in_or_not : (k : K) (xs : List K) → IsIn k xs ⊎ (IsIn k xs → ⊥)
  is_in_or_not k [] = inr (λ none. none)
  is_in_or_not k (x ∷ xs) = by (R k x) refl (is_in_or_not k xs)
    where
      apart : (r : Ordering) → R k x ≡ r → (r ≡ Equal → ⊥) → k ≡ x → ⊥
      apart r e f same = f (sym e ∙ ap (R k) (sym same) ∙ tied_itself total k)

      behind : (r : Ordering) → R k x ≡ r → (r ≡ Equal → ⊥) → IsIn k xs ⊎ (IsIn k xs → ⊥) → IsIn k (x ∷ xs) ⊎ (IsIn k (x ∷ xs) → ⊥)
      behind r e f (inl i) = inl (inr i)
      behind r e f (inr n) = inr (λ s. elim s [ inl same ↦ apart r e f same | inr i ↦ n i ])

      by : (r : Ordering) → R k x ≡ r → IsIn k xs ⊎ (IsIn k xs → ⊥) → IsIn k (x ∷ xs) ⊎ (IsIn k (x ∷ xs) → ⊥)
      by Less e rest = behind Less e (λ f. cc) rest
      by Equal e rest = inl (inl (anti k x e))
      by Greater e rest = behind Greater e (λ f. cc) rest

module _ {K X : Type 0} (R : K → K → Ordering) (total : IsTotalOrder R) (anti : IsAntisymmetric R) (f : X → X → X) where
  merged : (es ds : List (K × X)) → Rises R (keys_of es) → Rises R (keys_of ds) → IsUnion f es ds (merge_with R f es ds)
  merged es ds p q = with-union R total f es ds p q (λ x y s t tie. anti x y tie)

  pub Rises-merged : (es ds : List (K × X)) → Rises R (keys_of es) → Rises R (keys_of ds) → Rises R (keys_of (merge_with R f es ds))
  Rises-merged es ds p q = subst (Rises R) (sym (keys_of-merge_with R f es ds)) (Rises-greedy R total (keys_of es) (keys_of ds) p q)

  pub keys-merged : (es ds : List (K × X)) → Rises R (keys_of es) → Rises R (keys_of ds) → IsUnion f es ds (merge_with R f es ds)
  keys-merged = merged

  -- What holds of the pairs of a merge, by where each comes from.
  pub EachPair-merged : (E D G : K → X → Type 0) (es ds : List (K × X)) → Rises R (keys_of es) → Rises R (keys_of ds)
      → ((k : K) (v w : X) → IsIn k (keys_of es) → IsIn k (keys_of ds) → E k v → D k w → G k (f v w))
      → ((k : K) (v : X) → IsIn k (keys_of es) → (IsIn k (keys_of ds) → ⊥) → E k v → G k v)
      → ((k : K) (w : X) → (IsIn k (keys_of es) → ⊥) → IsIn k (keys_of ds) → D k w → G k w)
      → EachPair E es → EachPair D ds → EachPair G (merge_with R f es ds)
  EachPair-merged E D G es ds p q both first second each other =
      EachPair-from G (merge_with R f es ds) (λ k u at. by k u at (is_in_or_not R total anti k (keys_of es)) (is_in_or_not R total anti k (keys_of ds)))
    where
      m : IsUnion f es ds (merge_with R f es ds)
      m = merged es ds p q

      same : (k : K) (u v : X) → IsAt k u (merge_with R f es ds) → IsAt k v (merge_with R f es ds) → G k v → G k u
      same k u v s t g = subst (G k) (IsAt-unique R total (merge_with R f es ds) k v u (Rises-merged es ds p q) t s) g

      by : (k : K) (u : X) → IsAt k u (merge_with R f es ds) → IsIn k (keys_of es) ⊎ (IsIn k (keys_of es) → ⊥) → IsIn k (keys_of ds) ⊎ (IsIn k (keys_of ds) → ⊥) → G k u
      by k u at (inl i) (inl j) =
          let a : HasValue k es = value_of_key es k i in
          let b : HasValue k ds = value_of_key ds k j in
          same k u (f a.value b.value) at (m.both k a.value b.value a.at b.at)
          (both k a.value b.value i j (EachPair-at E es k a.value each a.at) (EachPair-at D ds k b.value other b.at))
      by k u at (inl i) (inr n) =
          let a : HasValue k es = value_of_key es k i in
          same k u a.value at (m.first k a.value a.at n) (first k a.value i n (EachPair-at E es k a.value each a.at))
      by k u at (inr n) (inl j) =
          let b : HasValue k ds = value_of_key ds k j in
          same k u b.value at (m.second k b.value n b.at) (second k b.value n j (EachPair-at D ds k b.value other b.at))
      by k u at (inr n) (inr o) = absurd (elim ((m.keys k).0 (IsIn-keys_of (merge_with R f es ds) k u at)) [ inl i ↦ n i | inr j ↦ o j ])

module _ {K X : Type 0} (E D : K → X → Type 0) (one : (k : K) (v w : X) → E k v → D k w → v ≡ w) where
  -- Two lists of pairs with the same keys are one where each key has one value.
  pub pairs_one : (es ds : List (K × X)) → keys_of es ≡ keys_of ds → EachPair E es → EachPair D ds → es ≡ ds
  pairs_one [] [] same each other = refl
  pairs_one [] (d ∷ ds) same each other = absurd (cc same)
  pairs_one (e ∷ es) [] same each other = absurd (cc same)
  pairs_one (e ∷ es) (d ∷ ds) same each other =
      let key : e.0 ≡ d.0 = cc in
      let rest : keys_of es ≡ keys_of ds = cc in
      let P : K → Type 0 = λ k. D k d.1 in
      let v : e.1 ≡ d.1 = one e.0 e.1 d.1 each.0 (subst P (sym key) other.0) in
      let tail : es ≡ ds = pairs_one es ds rest each.1 other.1 in
      λ i. (key i, v i) ∷ tail i

-- ---- the entries of a map

-- The entries of a list of keys with values.
abbrev pub entries_from : List (ScalarValue × Value) → Entries
entries_from [] = no_entry
entries_from (e ∷ es) = entry e.0 e.1 (entries_from es)

pub entries-pairs : (es : Entries) → entries_from (pairs es) ≡ es
entries-pairs no_entry = refl
entries-pairs (entry k v es) = ap (entry k v) (entries-pairs es)

pub pairs-entries : (es : List (ScalarValue × Value)) → pairs (entries_from es) ≡ es
pairs-entries [] = refl
pairs-entries (e ∷ es) = ap (λ l. e ∷ l) (pairs-entries es)

pub pairs-injective : (es fs : Entries) → pairs es ≡ pairs fs → es ≡ fs
pairs-injective es fs e = sym (entries-pairs es) ∙ ap entries_from e ∙ entries-pairs fs

-- Entries are joined as any keys with values are merged.
pub pairs-join : (es fs : Entries) → pairs (join_entries es fs) ≡ merge_with scalar_cmp join (pairs es) (pairs fs)
pairs-join no_entry fs = refl
pairs-join (entry k v es) fs = onto (pairs-join es) fs
  where
    onto : ((fs : Entries) → pairs (join_entries es fs) ≡ merge_with scalar_cmp join (pairs es) (pairs fs))
        → (fs : Entries) → pairs (join_entries (entry k v es) fs) ≡ merge_with scalar_cmp join ((k, v) ∷ pairs es) (pairs fs)
    onto rest no_entry = refl
    onto rest (entry l w fs) = by (scalar_cmp k l) refl (onto rest fs)
      where
        by : (r : Ordering) → scalar_cmp k l ≡ r
            → pairs (join_entries (entry k v es) fs) ≡ merge_with scalar_cmp join ((k, v) ∷ pairs es) (pairs fs)
            → pairs (join_entries (entry k v es) (entry l w fs)) ≡ merge_with scalar_cmp join ((k, v) ∷ pairs es) ((l, w) ∷ pairs fs)
        by Less h more = rw h (ap (λ x. (k, v) ∷ x) (rest (entry l w fs)))
        by Equal h more = rw h (ap (λ x. (k, join v w) ∷ x) (rest fs))
        by Greater h more = rw h (ap (λ x. (l, w) ∷ x) more)
