-- What one value says no more than another.
use Rattle.std.proofs.Common.{◌≡◌, ◌⊎◌, inl, inr, List, [], ◌∷◌, refl, sym, subst}
use Rattle.std.specs.Cmp.{IsTotalOrder}
use Rattle.std.specs.FinMap.{IsAntisymmetric}
use Rattle.std.specs.Coded.{Coded}
use Rattle.std.specs.declared.cmp.Ordering.{Ordering}
use Rattle.context_model.specs.KeyedMerge.{keys_of, IsAt, IsUnion}
use Rattle.context_model.specs.Orders.{IsIn, Rises}
use Rattle.context_model.proofs.GreedyElements.{Rises-unique}
use Rattle.context_model.proofs.MergeLaws.{EachPair-from, IsIn-keys_of, IsAt-unique}
use Rattle.bag_model.proofs.PairLaws.{pairs_one}
use Rattle.write_proof.proofs.Decided.{coded_same}

module _ {K X : Type 0} (coded : Coded K) where
  -- A key has a value in a list, or isn't there.
  pub at_or_not : (k : K) (es : List (K × X)) → ((v : X) × IsAt k v es) ⊎ (IsIn k (keys_of es) → ⊥)
  at_or_not k [] = inr (λ i. i)
  at_or_not k (e ∷ es) = by (coded_same coded k e.0) (at_or_not k es)
    where
      by : (k ≡ e.0) ⊎ (k ≡ e.0 → ⊥) → ((v : X) × IsAt k v es) ⊎ (IsIn k (keys_of es) → ⊥) → ((v : X) × IsAt k v (e ∷ es)) ⊎ (IsIn k (keys_of (e ∷ es)) → ⊥)
      by (inl same) t = inl (e.1, inl (same, refl))
      by (inr n) (inl a) = inl (a.0, inr a.1)
      by (inr n) (inr m) = inr (λ i. elim i [ inl same ↦ n same | inr j ↦ m j ])

pub key_value : {K X : Type 0} (es : List (K × X)) (k : K) → IsIn k (keys_of es) → (v : X) × IsAt k v es
key_value [] k i = absurd i
key_value (e ∷ es) k (inl same) = (e.1, inl (same, refl))
key_value (e ∷ es) k (inr i) = let s = key_value es k i in (s.0, inr s.1)

module _ {K X : Type 0} (R : K → K → Ordering) (total : IsTotalOrder R) (exact : IsAntisymmetric R) where
  -- Two lists with rising keys are one where the first has all keys of the second and each pair of
  -- it is in the second.
  pub pairs_same : (es ds : List (K × X)) → Rises R (keys_of es) → Rises R (keys_of ds) → ((k : K) → IsIn k (keys_of ds) → IsIn k (keys_of es)) → ((k : K) (v : X) → IsAt k v es → IsAt k v ds) → es ≡ ds
  pairs_same es ds p q keys within =
      pairs_one (λ k v. IsAt k v es) (λ k v. IsAt k v ds) (λ k v w s t. IsAt-unique R total ds k v w q (within k v s) t) es ds
      (Rises-unique R total (keys_of es) (keys_of ds) p q (λ k. ((λ i. let s = key_value es k i in IsIn-keys_of ds k s.0 (within k s.0 s.1)), keys k)))
      (EachPair-from (λ k v. IsAt k v es) es (λ k v at. at)) (EachPair-from (λ k v. IsAt k v ds) ds (λ k v at. at))

module _ {K X : Type 0} (coded : Coded K) (R : K → K → Ordering) (total : IsTotalOrder R) (exact : IsAntisymmetric R) (f : X → X → X) (es ds union : List (K × X))
    (p : Rises R (keys_of es)) (q : Rises R (keys_of ds)) (r : Rises R (keys_of union)) (u : IsUnion f es ds union) where
  -- The second list has the key with a value to which f brings nothing.
  abbrev pub AddsNothing : K → X → Type 0
  AddsNothing k v = (w : X) × IsAt k w ds × (f v w ≡ w)

  -- A union is its second list where the first brings nothing to it.
  pub union_same : ((k : K) (v : X) → IsAt k v es → AddsNothing k v) → union ≡ ds
  union_same nothing = pairs_same R total exact union ds r q (λ k i. (u.keys k).1 (inr i)) (λ k x at. by k x at (at_or_not coded k es) (at_or_not coded k ds))
    where
      same : (k : K) (x y : X) → IsAt k x union → IsAt k y union → IsAt k y ds → IsAt k x ds
      same k x y at also there = subst (λ z. IsAt k z ds) (IsAt-unique R total union k y x r also at) there

      by : (k : K) (x : X) → IsAt k x union → ((v : X) × IsAt k v es) ⊎ (IsIn k (keys_of es) → ⊥) → ((w : X) × IsAt k w ds) ⊎ (IsIn k (keys_of ds) → ⊥) → IsAt k x ds
      by k x at (inl a) t =
          let n = nothing k a.0 a.1 in
          same k x n.0 at (subst (λ z. IsAt k z union) n.2 (u.both k a.0 n.0 a.1 n.1)) n.1
      by k x at (inr out) (inl b) = same k x b.0 at (u.second k b.0 out b.1) b.1
      by k x at (inr out) (inr none) = absurd (elim ((u.keys k).0 (IsIn-keys_of union k x at)) [ inl i ↦ out i | inr i ↦ none i ])

  pub same_union : union ≡ ds → (k : K) (v : X) → IsAt k v es → AddsNothing k v
  same_union same k v at = by (at_or_not coded k ds)
    where
      by : ((w : X) × IsAt k w ds) ⊎ (IsIn k (keys_of ds) → ⊥) → AddsNothing k v
      by (inl b) = (b.0, b.1, IsAt-unique R total ds k (f v b.0) b.0 q (subst (IsAt k (f v b.0)) same (u.both k v b.0 at b.1)) b.1)
      by (inr none) = absurd (none (IsIn-keys_of ds k v (subst (IsAt k v) same (u.first k v at none))))

module _ {K X : Type 0} (coded : Coded K) (R : K → K → Ordering) (total : IsTotalOrder R) (f : X → X → X) (es ds union : List (K × X)) (r : Rises R (keys_of union)) (u : IsUnion f es ds union) where
  -- What a union has at a key is made of two values there, or is in one of both lists.
  pub union_at : (k : K) (x : X) → IsAt k x union → ((v w : X) × IsAt k v es × IsAt k w ds × (x ≡ f v w)) ⊎ (IsAt k x es ⊎ IsAt k x ds)
  union_at k x at = by (at_or_not coded k es) (at_or_not coded k ds)
    where
      one : (y : X) → IsAt k y union → x ≡ y
      one y also = IsAt-unique R total union k x y r at also

      by : ((v : X) × IsAt k v es) ⊎ (IsIn k (keys_of es) → ⊥) → ((w : X) × IsAt k w ds) ⊎ (IsIn k (keys_of ds) → ⊥) → ((v w : X) × IsAt k v es × IsAt k w ds × (x ≡ f v w)) ⊎ (IsAt k x es ⊎ IsAt k x ds)
      by (inl a) (inl b) = inl (a.0, b.0, a.1, b.1, one (f a.0 b.0) (u.both k a.0 b.0 a.1 b.1))
      by (inl a) (inr none) = inr (inl (subst (λ y. IsAt k y es) (sym (one a.0 (u.first k a.0 a.1 none))) a.1))
      by (inr out) (inl b) = inr (inr (subst (λ y. IsAt k y ds) (sym (one b.0 (u.second k b.0 out b.1))) b.1))
      by (inr out) (inr none) = absurd (elim ((u.keys k).0 (IsIn-keys_of union k x at)) [ inl i ↦ out i | inr i ↦ none i ])

module _ {K X : Type 0} (coded : Coded K) (f : X → X → X) (es ds union : List (K × X)) (u : IsUnion f es ds union) where
  -- A value of the first list is in the union, or what is made of it and of one of the second.
  pub first_at : (k : K) (v : X) → IsAt k v es → IsAt k v union ⊎ ((w : X) × IsAt k w ds × IsAt k (f v w) union)
  first_at k v at = elim (at_or_not coded k ds) [ inl b ↦ inr (b.0, b.1, u.both k v b.0 at b.1) | inr none ↦ inl (u.first k v at none) ]

  pub second_at : (k : K) (w : X) → IsAt k w ds → IsAt k w union ⊎ ((v : X) × IsAt k v es × IsAt k (f v w) union)
  second_at k w at = elim (at_or_not coded k es) [ inl a ↦ inr (a.0, a.1, u.both k a.0 w a.1 at) | inr out ↦ inl (u.second k w out at) ]
