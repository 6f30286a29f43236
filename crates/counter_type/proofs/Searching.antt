-- What a binary search of entries by their keys finds.
use Rattle.std.proofs.Common.{◌≡◌, ℕ, zero, suc, ◌<◌, ◌≤◌, ◌⊎◌, inl, inr, List, [], ◌∷◌, length, get_or, refl, sym, ◌∙◌, ap, subst, arith}
use Rattle.std.specs.Cmp.{IsTotalOrder}
use Rattle.std.specs.List.{slice_index_or, HoldsAt}
use Rattle.std.specs.List.Sorted.{IsNonDecreasingBy, IsPartitionPoint}
use Rattle.std.specs.Ordering.{ordering_index}
use Rattle.std.specs.declared.cmp.Ordering.{Ordering}
use Rattle.std.specs.declared.cmp.Ordering.TheVariants.{Less, Equal, Greater}
use Rattle.std.specs.Cmp.{alike_right, tied_itself}
use Rattle.std.proofs.lemmas.Bool.{cases_lt}
use Rattle.std.proofs.lemmas.Cmp.{nat_list_cmp_total}
use Rattle.std.proofs.lemmas.Map.Lookups.{exact_bytes}
use Rattle.context_model.specs.Orders.{IsIn, Rises, atom_cmp}
use Rattle.context_model.specs.KeyedMerge.{keys_of, IsAt}
use Rattle.context_model.proofs.Search.{IsAt-place}
use Rattle.context_model.proofs.Rising.{Rises-before, Rises-tail}

index_upto : (o : Ordering) → ordering_index o ≤ 2
index_upto Less = omega arith
index_upto Equal = omega arith
index_upto Greater = omega arith

-- Of two keys the lesser compares with k no higher than the greater does.
before_or_with : {K : Type 0} (R : K → K → Ordering) → IsTotalOrder R → (k j i : K) → R j i ≡ Less → ordering_index (R j k) ≤ ordering_index (R i k)
before_or_with R total k j i less = by (R i k) refl
  where
    by : (o : Ordering) → R i k ≡ o → ordering_index (R j k) ≤ ordering_index o
    by Less is = rw (total.trans j i k less is) (omega arith)
    by Equal is = rw (sym (alike_right total i k j is) ∙ less) (omega arith)
    by Greater is = index_upto (R j k)

module _ {K X : Type 0} where
  key_there : (es : List (K × X)) (i : ℕ) (d : K × X) → i < length es → IsIn (slice_index_or es i d).0 (keys_of es)
  key_there [] i d h = absurd (omega arith)
  key_there (e ∷ es) zero d h = inl refl
  key_there (e ∷ es) (suc i) d h = inr (key_there es i d (omega arith))

  -- A key is at some place.
  pub record StandsAt (es : List (K × X)) (k : K) : Type 0 where
    pub place : ℕ
    pub entry : K × X
    pub within : place < length es
    pub at : slice_index_or es place entry ≡ entry
    pub is : entry.0 ≡ k

  stands_at : (es : List (K × X)) (k : K) → IsIn k (keys_of es) → StandsAt es k
  stands_at [] k at = absurd at
  stands_at (e ∷ es) k (inl same) = record { place = 0; entry = e; within = omega arith; at = refl; is = sym same }
  stands_at (e ∷ es) k (inr at) = let r = stands_at es k at in record { place = suc r.place; entry = r.entry; within = omega (arith, r.within); at = r.at; is = r.is }

  -- Along keys that rise the comparisons with k don't fall.
  pub comparisons_rise : (R : K → K → Ordering) → IsTotalOrder R → (k : K) (es : List (K × X)) → Rises R (keys_of es) → IsNonDecreasingBy (λ (e : K × X). ordering_index (R e.0 k)) es
  comparisons_rise R total k [] rises i j d upto within = absurd (omega arith)
  comparisons_rise R total k (e ∷ es) rises zero zero d upto within = omega arith
  comparisons_rise R total k (e ∷ es) rises zero (suc j) d upto within =
      before_or_with R total k e.0 (slice_index_or es j d).0 (Rises-before R total e.0 (keys_of es) rises (slice_index_or es j d).0 (key_there es j d (omega arith)))
  comparisons_rise R total k (e ∷ es) rises (suc i) zero d upto within = absurd (omega arith)
  comparisons_rise R total k (e ∷ es) rises (suc i) (suc j) d upto within = comparisons_rise R total k es (Rises-tail R e.0 (keys_of es) rises) i j d (omega arith) (omega arith)

  -- Where each key is less than k or greater, k isn't there.
  pub not_there : (R : K → K → Ordering) → IsTotalOrder R → (k : K) (es : List (K × X)) (i : ℕ) → IsPartitionPoint (λ (e : K × X). R e.0 k ≡ Less) (λ (e : K × X). R e.0 k ≡ Greater) es i → IsIn k (keys_of es) → ⊥
  not_there R total k es i point at = by (cases_lt s.place i)
    where
      s : StandsAt es k
      s = stands_at es k at

      tie : R (slice_index_or es s.place s.entry).0 k ≡ Equal
      tie = ap (λ (e : K × X). R e.0 k) s.at ∙ ap (λ j. R j k) s.is ∙ tied_itself total k

      by : (s.place < i) ⊎ (i ≤ s.place) → ⊥
      by (inl less) = let other = point.0 s.place s.entry (omega arith) less in cc (tie, other)
      by (inr more) = let other = point.1 s.place s.entry more s.within in cc (tie, other)

-- What is found has the key.
pub found_there : (k : List ℕ) (es ds : List (List ℕ × ℕ)) (place : ℕ) (e : List ℕ × ℕ) → ds ≡ es → place < length es → e ≡ get_or es place e → HoldsAt (λ (d : List ℕ × ℕ). atom_cmp d.0 k ≡ Equal) ds place → IsAt k e.1 es
found_there k es ds place e same within is holds =
    let tie : atom_cmp e.0 k ≡ Equal = ap (λ (d : List ℕ × ℕ). atom_cmp d.0 k) (is ∙ ap (λ l. get_or l place e) (sym same)) ∙ holds e in
    subst (λ (j : List ℕ). IsAt j e.1 es) (exact_bytes e.0 k tie) (IsAt-place es place e within is)

-- Where nothing is found, the key isn't there.
pub found_nowhere : (k : List ℕ) (es ds : List (List ℕ × ℕ)) (i : ℕ) → ds ≡ es → Rises atom_cmp (keys_of es)
    → (IsNonDecreasingBy (λ (e : List ℕ × ℕ). ordering_index (atom_cmp e.0 k)) ds → IsPartitionPoint (λ (e : List ℕ × ℕ). atom_cmp e.0 k ≡ Less) (λ (e : List ℕ × ℕ). atom_cmp e.0 k ≡ Greater) ds i)
    → IsIn k (keys_of es) → ⊥
found_nowhere k es ds i same rises point =
    let rises_there = comparisons_rise atom_cmp nat_list_cmp_total k es rises in
    let P : List (List ℕ × ℕ) → Type 0 = λ l. IsNonDecreasingBy (λ (e : List ℕ × ℕ). ordering_index (atom_cmp e.0 k)) l in
    let Q : List (List ℕ × ℕ) → Type 0 = λ l. IsPartitionPoint (λ (e : List ℕ × ℕ). atom_cmp e.0 k ≡ Less) (λ (e : List ℕ × ℕ). atom_cmp e.0 k ≡ Greater) l i in
    not_there atom_cmp nat_list_cmp_total k es i (subst Q same (point (subst P (sym same) rises_there)))
