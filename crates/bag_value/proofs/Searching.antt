-- What a binary search of entries by their keys finds.
use Rattle.std.proofs.Common.{◌≡◌, ℕ, zero, suc, ◌<◌, ◌≤◌, ◌⊎◌, inl, inr, List, [], ◌∷◌, length, map, get_or, refl, sym, ◌∙◌, ap, subst, arith}
use Rattle.std.specs.Cmp.{alike_right, tied_itself}
use Rattle.std.specs.List.{slice_index_or, HoldsAt}
use Rattle.std.specs.List.Sorted.{IsNonDecreasingBy, IsPartitionPoint}
use Rattle.std.specs.Ordering.{ordering_index}
use Rattle.std.specs.declared.cmp.Ordering.{Ordering}
use Rattle.std.specs.declared.cmp.Ordering.TheVariants.{Less, Equal, Greater}
use Rattle.std.proofs.lemmas.Bool.{cases_lt}
use Rattle.context_model.specs.Orders.{IsIn, Rises}
use Rattle.context_model.specs.KeyedMerge.{keys_of, IsAt}
use Rattle.context_model.proofs.Rising.{Rises-before, Rises-tail}
use Rattle.bag_model.specs.Scalars.{ScalarValue, scalar_cmp}
use Rattle.bag_model.specs.Values.{pairs}
use Rattle.bag_model.proofs.ScalarOrder.{scalar_total, scalar_exact}
use Rattle.scalar_types.specs.Scalars.{value_of}
use Rattle.bag_value.specs.declared.lists.Entry.{Entry}
use Rattle.bag_value.specs.Vals.{plain, plain_entries}
use Rattle.bag_value.proofs.ListLaws.{entry_at}

abbrev key_of : Entry → ScalarValue
key_of e = value_of e.key

index_upto : (o : Ordering) → ordering_index o ≤ 2
index_upto Less = omega arith
index_upto Equal = omega arith
index_upto Greater = omega arith

-- Of two keys the lesser compares with k no higher than the greater does.
before_or_with : (k j i : ScalarValue) → scalar_cmp j i ≡ Less → ordering_index (scalar_cmp j k) ≤ ordering_index (scalar_cmp i k)
before_or_with k j i less = by (scalar_cmp i k) refl
  where
    by : (o : Ordering) → scalar_cmp i k ≡ o → ordering_index (scalar_cmp j k) ≤ ordering_index o
    by Less is = rw ((scalar_total).trans j i k less is) (omega arith)
    by Equal is = rw (sym (alike_right scalar_total i k j is) ∙ less) (omega arith)
    by Greater is = index_upto (scalar_cmp j k)

key_there : (es : List Entry) (i : ℕ) (d : Entry) → i < length es → IsIn (key_of (slice_index_or es i d)) (map key_of es)
key_there [] i d h = absurd (omega arith)
key_there (e ∷ es) zero d h = inl refl
key_there (e ∷ es) (suc i) d h = inr (key_there es i d (omega arith))

-- A key is at some place.
record StandsAt (es : List Entry) (k : ScalarValue) : Type 0 where
  pub place : ℕ
  pub entry : Entry
  pub within : place < length es
  pub at : slice_index_or es place entry ≡ entry
  pub is : key_of entry ≡ k

stands_at : (es : List Entry) (k : ScalarValue) → IsIn k (map key_of es) → StandsAt es k
stands_at [] k at = absurd at
stands_at (e ∷ es) k (inl same) = record { place = 0; entry = e; within = omega arith; at = refl; is = sym same }
stands_at (e ∷ es) k (inr at) = let r = stands_at es k at in record { place = suc r.place; entry = r.entry; within = omega (arith, r.within); at = r.at; is = r.is }

-- Along keys that rise the comparisons with k don't fall.
comparisons_rise : (k : ScalarValue) (es : List Entry) → Rises scalar_cmp (map key_of es) → IsNonDecreasingBy (λ (e : Entry). ordering_index (scalar_cmp (key_of e) k)) es
comparisons_rise k [] rises i j d upto within = absurd (omega arith)
comparisons_rise k (e ∷ es) rises zero zero d upto within = omega arith
comparisons_rise k (e ∷ es) rises zero (suc j) d upto within =
    before_or_with k (key_of e) (key_of (slice_index_or es j d)) (Rises-before scalar_cmp scalar_total (key_of e) (map key_of es) rises (key_of (slice_index_or es j d)) (key_there es j d (omega arith)))
comparisons_rise k (e ∷ es) rises (suc i) zero d upto within = absurd (omega arith)
comparisons_rise k (e ∷ es) rises (suc i) (suc j) d upto within = comparisons_rise k es (Rises-tail scalar_cmp (key_of e) (map key_of es) rises) i j d (omega arith) (omega arith)

-- Where each key is less than k or greater, k isn't there.
not_there : (k : ScalarValue) (es : List Entry) (i : ℕ) → IsPartitionPoint (λ (e : Entry). scalar_cmp (key_of e) k ≡ Less) (λ (e : Entry). scalar_cmp (key_of e) k ≡ Greater) es i → IsIn k (map key_of es) → ⊥
not_there k es i point at = by (cases_lt s.place i)
  where
    s : StandsAt es k
    s = stands_at es k at

    tie : scalar_cmp (key_of (slice_index_or es s.place s.entry)) k ≡ Equal
    tie = ap (λ (e : Entry). scalar_cmp (key_of e) k) s.at ∙ ap (λ j. scalar_cmp j k) s.is ∙ tied_itself scalar_total k

    by : (s.place < i) ⊎ (i ≤ s.place) → ⊥
    by (inl less) = let other = point.0 s.place s.entry (omega arith) less in cc (tie, other)
    by (inr more) = let other = point.1 s.place s.entry more s.within in cc (tie, other)

keys_plain : (es : List Entry) → keys_of (pairs (plain_entries es)) ≡ map key_of es
keys_plain [] = refl
keys_plain (e ∷ es) = ap (λ l. key_of e ∷ l) (keys_plain es)

-- What is found has the key.
pub found_there : (k : ScalarValue) (es ds : List Entry) (place : ℕ) (e : Entry) → ds ≡ es → place < length es → e ≡ get_or es place e → HoldsAt (λ (d : Entry). scalar_cmp (value_of d.key) k ≡ Equal) ds place
    → IsAt k (plain e.value) (pairs (plain_entries es))
found_there k es ds place e same within is holds =
    let tie : scalar_cmp (key_of e) k ≡ Equal = ap (λ (d : Entry). scalar_cmp (key_of d) k) (is ∙ ap (λ l. get_or l place e) (sym same)) ∙ holds e in
    subst (λ (j : ScalarValue). IsAt j (plain e.value) (pairs (plain_entries es))) (scalar_exact (key_of e) k tie) (entry_at es place e within is)

-- Where nothing is found, the key isn't there.
pub found_nowhere : (k : ScalarValue) (es ds : List Entry) (i : ℕ) → ds ≡ es → Rises scalar_cmp (keys_of (pairs (plain_entries es)))
    → (IsNonDecreasingBy (λ (e : Entry). ordering_index (scalar_cmp (value_of e.key) k)) ds → IsPartitionPoint (λ (e : Entry). scalar_cmp (value_of e.key) k ≡ Less) (λ (e : Entry). scalar_cmp (value_of e.key) k ≡ Greater) ds i)
    → IsIn k (keys_of (pairs (plain_entries es))) → ⊥
found_nowhere k es ds i same rises point at =
    let rises_there = comparisons_rise k es (subst (Rises scalar_cmp) (keys_plain es) rises) in
    let P : List Entry → Type 0 = λ l. IsNonDecreasingBy (λ (e : Entry). ordering_index (scalar_cmp (value_of e.key) k)) l in
    let Q : List Entry → Type 0 = λ l. IsPartitionPoint (λ (e : Entry). scalar_cmp (value_of e.key) k ≡ Less) (λ (e : Entry). scalar_cmp (value_of e.key) k ≡ Greater) l i in
    not_there k es i (subst Q same (point (subst P (sym same) rises_there))) (subst (IsIn k) (keys_plain es) at)
