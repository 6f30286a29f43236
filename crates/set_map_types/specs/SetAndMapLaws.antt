-- The laws of sets and maps, for every codec in which a spelling belongs to one value and for every
-- lattice of values.
use Rattle.std.specs.Prelude.{◌≡◌, ℕ, ◌⊎◌, ◌↔◌, List, [], ◌∷◌, ◌++◌}
use Rattle.std.specs.Cmp.{IsTotalOrder}
use Rattle.std.specs.Ordering.{flip_args}
use Rattle.std.specs.declared.cmp.Ordering.{Ordering}
use Rattle.std.specs.declared.cmp.Ordering.TheVariants.{Equal}
use Rattle.std.proofs.Common.{refl, sym, ◌∙◌, ap, subst, inl, inr}
use Rattle.std.proofs.lemmas.Cmp.{back_total, nat_list_cmp_total, on_total}
use Rattle.std.proofs.lemmas.Map.Lookups.{exact_bytes}
use Rattle.scalar_types.specs.Codec.{OneValue}
use Rattle.counter_type.specs.Lattice.{LatticeLaws}
use Rattle.context_model.specs.Orders.{IsIn}
use Rattle.context_model.specs.GreedyMerge.{greedy_merge, AllBelow}
use Rattle.context_model.specs.KeyedMerge.{merge_with, keys_of, IsAt, AtOneKey, IsUnion}
use Rattle.context_model.proofs.Rising.{Rises-greedy, Rises-push}
use Rattle.context_model.proofs.GreedyLaws.{greedy-comm, greedy-assoc, greedy-idem, greedy-from}
use Rattle.context_model.proofs.Meets.{greedy-holds, with-union}
use Rattle.context_model.proofs.MergeLaws.{From, with-from, with-comm, with-assoc, with-idem, keys_of-merge_with, EachPair-at, EachPair-from, IsIn-keys_of, IsAt-unique}
use Rattle.set_map_types.specs.SetsAndMaps.{Held, value_cmp, IsSet, IsMap, set_proper, set_joined, SameCodec, HoldsNothing, map_proper, MapAlike, map_joined}

-- The laws of lists of values of one codec.
module _ {V : Type 0} (fits : V → Type 0) (spelling : V → List ℕ)
    (one : OneValue fits spelling) where
  -- The order of values by their spellings is total.
  pub value_cmp_total : IsTotalOrder (value_cmp spelling)
  value_cmp_total = on_total spelling nat_list_cmp_total

  -- Values that fit and tie are one value.
  pub value_cmp_exact : (v w : V) → fits v → fits w → value_cmp spelling v w ≡ Equal → v ≡ w
  value_cmp_exact v w p q tie = one v w p q (exact_bytes (spelling v) (spelling w) tie)

  -- The order of values by their spellings, turned round, is total.
  pub against_total : IsTotalOrder (flip_args (value_cmp spelling))
  against_total = back_total value_cmp_total

  -- Values that fit and tie in the order turned round are one value.
  pub against_exact : (v w : V) → fits v → fits w → flip_args (value_cmp spelling) v w ≡ Equal
      → v ≡ w
  against_exact v w p q tie = sym (value_cmp_exact w v q p tie)

  -- The union of two sets is a set.
  pub IsSet-union : (xs ys : List V) → IsSet fits spelling xs → IsSet fits spelling ys
      → IsSet fits spelling (greedy_merge (value_cmp spelling) xs ys)
  IsSet-union xs ys p q = record {
    fit = λ v at. by v (greedy-from (value_cmp spelling) value_cmp_total xs ys v at);
    rise = Rises-greedy (value_cmp spelling) value_cmp_total xs ys p.rise q.rise;
  }
    where
      by : (v : V) → IsIn v xs ⊎ IsIn v ys → fits v
      by v (inl at) = p.fit v at
      by v (inr at) = q.fit v at

  -- The union of two sets doesn't depend on their order.
  union-comm : (xs ys : List V) → IsSet fits spelling xs → IsSet fits spelling ys
      → greedy_merge (value_cmp spelling) xs ys ≡ greedy_merge (value_cmp spelling) ys xs
  union-comm xs ys p q =
      greedy-comm (value_cmp spelling) value_cmp_total xs ys
      (λ x y s t tie. value_cmp_exact x y (p.fit x s) (q.fit y t) tie)

module _ {C V : Type 0} (fits : C → V → Type 0) (spelling : C → V → List ℕ)
    (one : (c : C) → OneValue (fits c) (spelling c)) where
  -- What is a set for a codec is one for an equal codec.
  along : (s t : Held C V) → SameCodec s t → set_proper fits spelling t
      → IsSet (fits s.codec) (spelling s.codec) t.items
  along s t same p = subst (λ (c : C). IsSet (fits c) (spelling c) t.items) (sym same) p

  -- Sets are a join semilattice.
  pub set_laws : LatticeLaws (set_proper fits spelling) SameCodec (set_joined spelling) HoldsNothing
  set_laws = record {
    alike_self = λ x p. refl;
    alike_back = λ x y p q a. sym a;
    alike_joined = λ x y z p q r a b c. c;
    proper_joined =
        λ x y p q a. IsSet-union (fits x.codec) (spelling x.codec) (one x.codec) x.items y.items p
        (along x y a q);
    commutes =
        λ x y p q a. (λ i. record {
          codec = a i;
          items = union-comm (fits x.codec)
              (spelling x.codec) (one x.codec) x.items y.items p (along x y a q) i;
        })
        ∙ ap (λ c. record {
          codec = y.codec;
          items = greedy_merge
              (value_cmp (spelling c)) y.items x.items;
        }) a;
    regroups = λ x y z p q r a b c.
        (λ i. record {
          codec = x.codec;
          items = greedy-assoc (value_cmp (spelling x.codec))
              (value_cmp_total (fits x.codec) (spelling x.codec)
              (one x.codec)) x.items y.items z.items i;
        })
        ∙ ap (λ d. record {
          codec = x.codec;
          items = greedy_merge
              (value_cmp (spelling x.codec)) x.items
              (greedy_merge (value_cmp (spelling d)) y.items z.items);
        }) a;
    repeats =
        λ x p. (λ i. record {
          codec = x.codec;
          items = greedy-idem (value_cmp (spelling x.codec))
              (value_cmp_total (fits x.codec) (spelling x.codec) (one x.codec)) x.items i;
        });
    bottom_first =
        λ b x p q a e. (λ i.
        record {
          codec = a i;
          items = ap
              (λ l. greedy_merge (value_cmp (spelling b.codec)) l x.items) e i;
        });
  }

-- The laws of lists of entries of one codec.
module _ {V L : Type 0} (fits : V → Type 0) (spelling : V → List ℕ) (one : OneValue fits spelling)
    (proper : L → Type 0) (alike : L → L → Type 0) (joined : L → L → L) (bottom : L → Type 0)
    (laws : LatticeLaws proper alike joined bottom) where
  -- The order of keys, by their spellings.
  abbrev R : V → V → Ordering
  R = value_cmp spelling

  -- The value at a key of a map is proper.
  pub proper_at : (es : List (V × L)) → IsMap fits spelling proper es → (k : V) (v : L)
      → IsAt k v es → proper v
  proper_at es p k v at = EachPair-at (λ k v. proper v) es k v p.values at

  -- A key of a map fits.
  pub fits_at : (es : List (V × L)) → IsMap fits spelling proper es → (k : V) (v : L) → IsAt k v es
      → fits k
  fits_at es p k v at = p.keys.fit k (IsIn-keys_of es k v at)

  -- Keys of two maps that tie are one key.
  pub tied_keys : (es ds : List (V × L)) → IsMap fits spelling proper es
      → IsMap fits spelling proper ds → (k j : V) (v w : L) → IsAt k v es → IsAt j w ds
      → R k j ≡ Equal → k ≡ j
  tied_keys es ds p q k j v w s t tie =
      value_cmp_exact fits spelling one k j (fits_at es p k v s) (fits_at ds q j w t) tie

  -- The values at keys of two maps that tie are alike.
  pub tied_alike : (es ds : List (V × L)) → IsMap fits spelling proper es
      → IsMap fits spelling proper ds → AtOneKey alike es ds → (k j : V) (v w : L) → IsAt k v es
      → IsAt j w ds → R k j ≡ Equal → alike v w
  tied_alike es ds p q a k j v w s t tie =
      a k v w s (subst (λ (i : V). IsAt i w ds) (sym (tied_keys es ds p q k j v w s t tie)) t)

  -- Each value of the join of two maps is proper.
  merge-values : (es ds : List (V × L)) → IsMap fits spelling proper es
      → IsMap fits spelling proper ds → AtOneKey alike es ds → (k : V) (v : L)
      → From R joined es ds k v → proper v
  merge-values es ds p q a k v (inl at) = proper_at es p k v at
  merge-values es ds p q a k v (inr (inl at)) = proper_at ds q k v at
  merge-values es ds p q a k v (inr (inr m)) =
      subst proper (sym m.made)
      (laws.proper_joined m.first m.second (proper_at es p k m.first m.in_first)
      (proper_at ds q m.other m.second m.in_second)
      (tied_alike es ds p q a k m.other m.first m.second m.in_first m.in_second m.tied))

  -- The join of two maps is a map.
  pub IsMap-merge : (es ds : List (V × L)) → IsMap fits spelling proper es
      → IsMap fits spelling proper ds → AtOneKey alike es ds
      → IsMap fits spelling proper (merge_with R joined es ds)
  IsMap-merge es ds p q a = record {
    keys =
        subst (IsSet fits spelling) (sym (keys_of-merge_with R joined es ds))
        (IsSet-union fits spelling one (keys_of es) (keys_of ds) p.keys q.keys);
    values =
        EachPair-from (λ k v. proper v) (merge_with R joined es ds)
        (λ k v at. merge-values es ds p q a k v (with-from R joined es ds k v at));
  }

  -- The join of two maps doesn't depend on their order.
  pub merge-comm : (es ds : List (V × L)) → IsMap fits spelling proper es
      → IsMap fits spelling proper ds → AtOneKey alike es ds
      → merge_with R joined es ds ≡ merge_with R joined ds es
  merge-comm es ds p q a =
      with-comm R (value_cmp_total fits spelling one) joined es ds (λ k j v w s t tie. (
        tied_keys es ds p q k j v w s t tie,
        laws.commutes v w (proper_at es p k v s) (proper_at ds q j w t)
            (tied_alike es ds p q a k j v w s t tie),
      ))

  -- The join of three maps doesn't depend on how they are grouped.
  pub merge-assoc : (es ds gs : List (V × L)) → IsMap fits spelling proper es
      → IsMap fits spelling proper ds → IsMap fits spelling proper gs → AtOneKey alike es ds
      → AtOneKey alike ds gs → AtOneKey alike es gs
      → merge_with R joined (merge_with R joined es ds) gs
      ≡ merge_with R joined es (merge_with R joined ds gs)
  merge-assoc es ds gs p q r a b c =
      with-assoc R (value_cmp_total fits spelling one) joined es ds gs
      (λ k j i v w u s t m tie also.
      laws.regroups v w u (proper_at es p k v s) (proper_at ds q j w t) (proper_at gs r i u m)
      (tied_alike es ds p q a k j v w s t tie)
      (tied_alike ds gs q r b j i w u t m also)
      (tied_alike es gs p r c k i v u s m
      ((value_cmp_total fits spelling one).congr k j i tie ∙ also)))

  -- The join of a map with itself is the map.
  pub merge-idem : (es : List (V × L)) → IsMap fits spelling proper es
      → merge_with R joined es es ≡ es
  merge-idem es p =
      with-idem R (value_cmp_total fits spelling one) joined es
      (EachPair-from (λ k v. joined v v ≡ v) es
      (λ k v at. laws.repeats v (proper_at es p k v at)))

  -- A map is alike to itself.
  pub alike-self : (es : List (V × L)) → IsMap fits spelling proper es → AtOneKey alike es es
  alike-self es p k v w s t =
      subst (alike v) (IsAt-unique R (value_cmp_total fits spelling one) es k v w p.keys.rise s t)
      (laws.alike_self v (proper_at es p k v s))

  -- Where a map is alike to another, the other is alike to it.
  pub alike-back : (es ds : List (V × L)) → IsMap fits spelling proper es
      → IsMap fits spelling proper ds → AtOneKey alike es ds → AtOneKey alike ds es
  alike-back es ds p q a k v w s t =
      laws.alike_back w v (proper_at es p k w t) (proper_at ds q k v s) (a k w v t s)

  -- The join of two maps is alike to a third to which both are.
  pub alike-merge : (es ds gs : List (V × L)) → IsMap fits spelling proper es
      → IsMap fits spelling proper ds → IsMap fits spelling proper gs → AtOneKey alike es ds
      → AtOneKey alike ds gs → AtOneKey alike es gs
      → AtOneKey alike (merge_with R joined es ds) gs
  alike-merge es ds gs p q r a b c k v w s t = by (with-from R joined es ds k v s)
    where
      by : From R joined es ds k v → alike v w
      by (inl at) = c k v w at t
      by (inr (inl at)) = b k v w at t
      by (inr (inr m)) =
          let same = tied_keys es ds p q k m.other m.first m.second m.in_first m.in_second m.tied in
          subst (λ (x : L). alike x w) (sym m.made)
          (laws.alike_joined m.first m.second w (proper_at es p k m.first m.in_first)
          (proper_at ds q m.other m.second m.in_second) (proper_at gs r k w t)
          (tied_alike es ds p q a k m.other m.first m.second m.in_first m.in_second m.tied)
          (b m.other m.second w m.in_second (subst (λ (i : V). IsAt i w gs) same t))
          (c k m.first w m.in_first t))

module _ {C V L : Type 0} (fits : C → V → Type 0) (spelling : C → V → List ℕ)
    (one : (c : C) → OneValue (fits c) (spelling c)) (proper : L → Type 0) (alike : L → L → Type 0)
    (joined : L → L → L) (bottom : L → Type 0)
    (laws : LatticeLaws proper alike joined bottom) where
  -- What is a map for a codec is one for an equal codec.
  map_along : (s t : Held C (V × L)) → s.codec ≡ t.codec
      → IsMap (fits t.codec) (spelling t.codec) proper t.items
      → IsMap (fits s.codec) (spelling s.codec) proper t.items
  map_along s t same p = subst (λ (c : C). IsMap (fits c) (spelling c) proper t.items) (sym same) p

  -- Maps are a join semilattice, where their values are one.
  pub map_laws : LatticeLaws (map_proper fits spelling proper) (MapAlike alike)
      (map_joined spelling joined) HoldsNothing
  map_laws = record {
    alike_self =
        λ x p. record {
          codecs = refl;
          values = alike-self (fits x.codec) (spelling x.codec)
              (one x.codec) proper alike joined bottom laws x.items p;
        };
    alike_back =
        λ x y p q a. record {
          codecs = sym a.codecs;
          values = alike-back (fits x.codec)
              (spelling x.codec) (one x.codec) proper alike joined bottom laws x.items y.items p
              (map_along x y a.codecs q) a.values;
        };
    alike_joined =
        λ x y z p q r a b c.
        record {
          codecs = c.codecs;
          values = alike-merge (fits x.codec) (spelling x.codec)
              (one x.codec) proper alike joined bottom laws x.items y.items z.items p
              (map_along x y a.codecs q)
              (map_along x z c.codecs r) a.values b.values c.values;
        };
    proper_joined =
        λ x y p q a. IsMap-merge (fits x.codec) (spelling x.codec)
        (one x.codec) proper alike joined bottom laws x.items y.items p
        (map_along x y a.codecs q) a.values;
    commutes = λ x y p q a.
        (λ i. record {
          codec = a.codecs i;
          items = merge-comm (fits x.codec) (spelling x.codec)
              (one x.codec) proper alike joined bottom laws x.items y.items p
              (map_along x y a.codecs q) a.values i;
        })
        ∙ ap (λ c. record {
          codec = y.codec;
          items = merge_with
              (value_cmp (spelling c)) joined y.items x.items;
        }) a.codecs;
    regroups = λ x y z p q r a b c.
        (λ i. record {
          codec = x.codec;
          items = merge-assoc (fits x.codec) (spelling x.codec)
              (one x.codec) proper alike joined bottom laws x.items y.items z.items p
              (map_along x y a.codecs q)
              (map_along x z c.codecs r) a.values b.values c.values i;
        })
        ∙ ap (λ d. record {
          codec = x.codec;
          items = merge_with
              (value_cmp (spelling x.codec)) joined x.items
              (merge_with (value_cmp (spelling d)) joined y.items z.items);
        }) a.codecs;
    repeats =
        λ x p. (λ i. record {
          codec = x.codec;
          items = merge-idem (fits x.codec) (spelling x.codec)
              (one x.codec) proper alike joined bottom laws x.items p i;
        });
    bottom_first =
        λ b x p q a e. (λ i.
        record {
          codec = a.codecs i;
          items = ap
              (λ l. merge_with (value_cmp (spelling b.codec)) joined l x.items) e i;
        });
  }

-- A set is a map to nothing.
module _ {V : Type 0} (fits : V → Type 0) (spelling : V → List ℕ) where
  -- Entries with nothing for values are a map where their keys are a set.
  pub IsMap-bare : (entries : List (V × Unit {0})) → IsSet fits spelling (keys_of entries)
      → IsMap fits spelling (λ u. Unit {0}) entries
  IsMap-bare entries set = record {
    keys = set;
    values = EachPair-from (λ k v. Unit {0}) entries (λ k v at. tt);
  }

  -- A value of a list with one more at its end is one of the list, or the last.
  in_push : (values : List V) (v w : V) → IsIn w (values ++ v ∷ []) → IsIn w values ⊎ (w ≡ v)
  in_push [] v w (inl same) = inr same
  in_push [] v w (inr none) = elim none [ ]
  in_push (x ∷ xs) v w (inl same) = inl (inl same)
  in_push (x ∷ xs) v w (inr later) = by (in_push xs v w later)
    where
      by : IsIn w xs ⊎ (w ≡ v) → IsIn w (x ∷ xs) ⊎ (w ≡ v)
      by (inl at) = inl (inr at)
      by (inr same) = inr same

  -- A value that fits and comes after all others can be added.
  pub IsSet-push : (values : List V) (v : V) → IsSet fits spelling values → fits v
      → AllBelow (value_cmp spelling) values v → IsSet fits spelling (values ++ v ∷ [])
  IsSet-push values v set fit below = record {
    fit = λ w at. by w (in_push values v w at);
    rise = Rises-push (value_cmp spelling) values v set.rise below;
  }
    where
      by : (w : V) → IsIn w values ⊎ (w ≡ v) → fits w
      by w (inl at) = set.fit w at
      by w (inr same) = subst fits (sym same) fit

module _ {C V : Type 0} (fits : C → V → Type 0) (spelling : C → V → List ℕ)
    (one : (c : C) → OneValue (fits c) (spelling c)) where
  -- A value is in the join of two sets exactly where it is in one of them.
  pub set_union : (s t : Held C V) → set_proper fits spelling s → set_proper fits spelling t
      → s.codec ≡ t.codec → (v : V)
      → IsIn v (set_joined spelling s t).items ↔ (IsIn v s.items ⊎ IsIn v t.items)
  set_union s t p q same v =
      let total = value_cmp_total (fits s.codec) (spelling s.codec) (one s.codec) in
      let there = along fits spelling one s t same q in (
        greedy-from (value_cmp (spelling s.codec)) total s.items t.items v,
        greedy-holds (value_cmp (spelling s.codec)) total s.items t.items
            (λ x y a b tie. value_cmp_exact (fits s.codec) (spelling s.codec) (one s.codec) x y
            (p.fit x a) (there.fit y b) tie) v,
      )

  -- The join of two maps is their union, whatever their values are joined to.
  pub map_union : {L : Type 0} (proper : L → Type 0) (joined : L → L → L) (s t : Held C (V × L))
      → map_proper fits spelling proper s → map_proper fits spelling proper t → s.codec ≡ t.codec
      → IsUnion joined s.items t.items (map_joined spelling joined s t).items
  map_union proper joined s t p q same =
      let total = value_cmp_total (fits s.codec) (spelling s.codec) (one s.codec) in
      let there = subst (λ (c : C). IsMap (fits c) (spelling c) proper t.items) (sym same) q in
      with-union (value_cmp
      (spelling s.codec)) total joined s.items t.items p.keys.rise there.keys.rise
      (λ x y a b tie. value_cmp_exact (fits s.codec) (spelling s.codec) (one s.codec) x y
      (p.keys.fit x a) (there.keys.fit y b) tie)
