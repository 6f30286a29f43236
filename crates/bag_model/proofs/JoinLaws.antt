-- The laws of the join of values that are alike.
use Rattle.std.proofs.Common.{◌≡◌, inl, inr, ℕ, ◌^◌, ◌<◌, max, Bool, true, false, ◌||◌, List, refl, sym, ap, ◌∙◌, subst, arith}
use Rattle.std.specs.List.{AllByRecursion}
use Rattle.context_model.specs.Orders.{atom_cmp, Rises}
use Rattle.context_model.specs.GreedyMerge.{greedy_merge, first_of}
use Rattle.context_model.specs.KeyedMerge.{merge_with, keys_of, EachPair, IsAt}
use Rattle.context_model.proofs.OrderLaws.{atoms_total, atoms_anti}
use Rattle.context_model.proofs.GreedyLaws.{greedy-comm, greedy-assoc, greedy-idem}
use Rattle.context_model.proofs.GreedyElements.{All-greedy}
use Rattle.context_model.proofs.Rising.{Rises-greedy}
use Rattle.context_model.proofs.MergeLaws.{with-comm, with-assoc, with-idem, with-from, From, EachPair-from, IsAt-unique}
use Rattle.bag_model.specs.Scalars.{ScalarValue, scalar_cmp, pick_cmp, IsScalarOf}
use Rattle.bag_model.specs.Values.{Value, Entries, Values, Taint, Scalar, Set, Counter, Map, Bag, no_entry, entry, no_value, value, pairs}
use Rattle.bag_model.specs.Joins.{join, join_entries, join_values, IsBottom, AreBottom, Alike, AlikeEntries, AreAlike, Proper, AreProperEntries, AreProper}
use Rattle.bag_model.proofs.ScalarOrder.{scalar_total, scalar_exact, pick_total, pick_exact}
use Rattle.bag_model.proofs.FirstLaws.{first-comm, first-assoc, first-idem}
use Rattle.bag_model.proofs.PairLaws.{Rises-merged, EachPair-merged, pairs-injective, pairs-join}

or-comm : (a b : Bool) → (a || b) ≡ (b || a)
or-comm true true = refl
or-comm true false = refl
or-comm false true = refl
or-comm false false = refl

or-assoc : (a b c : Bool) → ((a || b) || c) ≡ (a || (b || c))
or-assoc true b c = refl
or-assoc false b c = refl

or-idem : (a : Bool) → (a || a) ≡ a
or-idem true = refl
or-idem false = refl

-- ---- the entries of two maps at a key of both

-- Two maps are alike where the values at each key of both are.
pub AlikeEntries-from : (es fs : Entries) → ((k : ScalarValue) (v w : Value) → IsAt k v (pairs es) → IsAt k w (pairs fs) → Alike v w) → AlikeEntries es fs
AlikeEntries-from no_entry fs each = tt
AlikeEntries-from (entry k v es) fs each = ((λ w at. each k v w (inl (refl, refl)) at), AlikeEntries-from es fs (λ j u w s t. each j u w (inr s) t))

pub AlikeEntries-at : (es fs : Entries) (k : ScalarValue) (v w : Value) → AlikeEntries es fs → IsAt k v (pairs es) → IsAt k w (pairs fs) → Alike v w
AlikeEntries-at no_entry fs k v w a s t = absurd s
AlikeEntries-at (entry l u es) fs k v w a (inl s) t =
    subst (λ x. Alike x w) (sym s.1) (a.0 w (subst (λ j. IsAt j w (pairs fs)) s.0 t))
AlikeEntries-at (entry l u es) fs k v w a (inr s) t = AlikeEntries-at es fs k v w a.1 s t

-- Each value of a proper map is proper.
pub AreProperEntries-from : (es : Entries) → ((k : ScalarValue) (v : Value) → IsAt k v (pairs es) → Proper v) → AreProperEntries es
AreProperEntries-from no_entry each = tt
AreProperEntries-from (entry k v es) each = (each k v (inl (refl, refl)), AreProperEntries-from es (λ j u at. each j u (inr at)))

pub AreProperEntries-at : (es : Entries) (k : ScalarValue) (v : Value) → AreProperEntries es → IsAt k v (pairs es) → Proper v
AreProperEntries-at no_entry k v p at = absurd at
AreProperEntries-at (entry l u es) k v p (inl at) = subst Proper (sym at.1) p.0
AreProperEntries-at (entry l u es) k v p (inr at) = AreProperEntries-at es k v p.1 at

-- ---- the order of the two

mutual
  comm : (x y : Value) → Alike x y → join x y ≡ join y x
  comm (Taint a) (Taint b) r = ap Taint (or-comm a b)
  comm (Taint a) y r = absurd r
  comm (Scalar s a) (Scalar t b) r =
      let e : first_of (pick_cmp s) a b ≡ first_of (pick_cmp s) b a = first-comm (pick_cmp s) (pick_total s) (pick_exact s) a b in
      let same : first_of (pick_cmp s) b a ≡ first_of (pick_cmp t) b a = ap (λ pick. first_of (pick_cmp pick) b a) r in
      λ i. Scalar (r i) ((e ∙ same) i)
  comm (Scalar s a) y r = absurd r
  comm (Set k a) (Set l b) r = let e : greedy_merge scalar_cmp a b ≡ greedy_merge scalar_cmp b a = greedy-comm scalar_cmp scalar_total a b (λ x y i j tie. scalar_exact x y tie) in λ i. Set (r i) (e i)
  comm (Set k a) y r = absurd r
  comm (Counter a) (Counter b) r = ap Counter (with-comm atom_cmp atoms_total max a b (λ k j v w s t tie. (atoms_anti k j tie, omega arith)))
  comm (Counter a) y r = absurd r
  comm (Map a) (Map b) r =
      ap Map (pairs-injective (join_entries a b) (join_entries b a) (
      pairs-join a b
      ∙ with-comm scalar_cmp scalar_total join (pairs a) (pairs b)
      (λ k j v w s t tie. let e : k ≡ j = scalar_exact k j tie in (e, comm_at a b r k v w s (subst (λ i. IsAt i w (pairs b)) (sym e) t)))
      ∙ sym (pairs-join b a)
      ))
  comm (Map a) y r = absurd r
  comm (Bag a) (Bag b) r = ap Bag (comm_values a b r)
  comm (Bag a) y r = absurd r

  comm_at : (es fs : Entries) → AlikeEntries es fs → (k : ScalarValue) (v w : Value) → IsAt k v (pairs es) → IsAt k w (pairs fs) → join v w ≡ join w v
  comm_at no_entry fs r k v w s t = absurd s
  comm_at (entry l u es) fs r k v w (inl s) t =
      subst (λ x. join x w ≡ join w x) (sym s.1) (comm u w (r.0 w (subst (λ j. IsAt j w (pairs fs)) s.0 t)))
  comm_at (entry l u es) fs r k v w (inr s) t = comm_at es fs r.1 k v w s t

  comm_values : (vs ws : Values) → AreAlike vs ws → join_values vs ws ≡ join_values ws vs
  comm_values no_value no_value r = refl
  comm_values no_value (value w ws) r = absurd r
  comm_values (value v vs) no_value r = absurd r
  comm_values (value v vs) (value w ws) r = let e : join v w ≡ join w v = comm v w r.0 in let f : join_values vs ws ≡ join_values ws vs = comm_values vs ws r.1 in λ i. value (e i) (f i)

-- ---- the grouping of three

mutual
  assoc : (x y z : Value) → Alike x y → Alike y z → Alike x z → join (join x y) z ≡ join x (join y z)
  assoc (Taint a) (Taint b) (Taint c) r s t = ap Taint (or-assoc a b c)
  assoc (Taint a) (Taint b) z r s t = absurd s
  assoc (Taint a) y z r s t = absurd r
  assoc (Scalar k a) (Scalar l b) (Scalar m c) r s t =
      let e : first_of (pick_cmp k) (first_of (pick_cmp k) a b) c ≡ first_of (pick_cmp k) a (first_of (pick_cmp k) b c) = first-assoc (pick_cmp k) (pick_total k) a b c in
      let same : first_of (pick_cmp k) b c ≡ first_of (pick_cmp l) b c = ap (λ pick. first_of (pick_cmp pick) b c) r in
      ap (Scalar k) (e ∙ ap (first_of (pick_cmp k) a) same)
  assoc (Scalar k a) (Scalar l b) z r s t = absurd s
  assoc (Scalar k a) y z r s t = absurd r
  assoc (Set k a) (Set l b) (Set m c) r s t = ap (Set k) (greedy-assoc scalar_cmp scalar_total a b c)
  assoc (Set k a) (Set l b) z r s t = absurd s
  assoc (Set k a) y z r s t = absurd r
  assoc (Counter a) (Counter b) (Counter c) r s t = ap Counter (with-assoc atom_cmp atoms_total max a b c (λ k j i v w u p q o d e. omega arith))
  assoc (Counter a) (Counter b) z r s t = absurd s
  assoc (Counter a) y z r s t = absurd r
  assoc (Map a) (Map b) (Map c) r s t =
      ap Map (pairs-injective (join_entries (join_entries a b) c) (join_entries a (join_entries b c)) (
      pairs-join (join_entries a b) c
      ∙ ap (λ l. merge_with scalar_cmp join l (pairs c)) (pairs-join a b)
      ∙ with-assoc scalar_cmp scalar_total join (pairs a) (pairs b) (pairs c)
      (λ k j i v w u p q o d e.
      let f : k ≡ j = scalar_exact k j d in
      let g : k ≡ i = f ∙ scalar_exact j i e in
      assoc_at a b c r s t k v w u p (subst (λ x. IsAt x w (pairs b)) (sym f) q) (subst (λ x. IsAt x u (pairs c)) (sym g) o))
      ∙ ap (λ l. merge_with scalar_cmp join (pairs a) l) (sym (pairs-join b c))
      ∙ sym (pairs-join a (join_entries b c))
      ))
  assoc (Map a) (Map b) z r s t = absurd s
  assoc (Map a) y z r s t = absurd r
  assoc (Bag a) (Bag b) (Bag c) r s t = ap Bag (assoc_values a b c r s t)
  assoc (Bag a) (Bag b) z r s t = absurd s
  assoc (Bag a) y z r s t = absurd r

  assoc_at : (es fs gs : Entries) → AlikeEntries es fs → AlikeEntries fs gs → AlikeEntries es gs → (k : ScalarValue) (v w u : Value)
      → IsAt k v (pairs es) → IsAt k w (pairs fs) → IsAt k u (pairs gs) → join (join v w) u ≡ join v (join w u)
  assoc_at no_entry fs gs r s t k v w u p q o = absurd p
  assoc_at (entry l x es) fs gs r s t k v w u (inl p) q o =
      subst (λ y. join (join y w) u ≡ join y (join w u)) (sym p.1)
      (assoc x w u (r.0 w (subst (λ j. IsAt j w (pairs fs)) p.0 q)) (AlikeEntries-at fs gs k w u s q o) (t.0 u (subst (λ j. IsAt j u (pairs gs)) p.0 o)))
  assoc_at (entry l x es) fs gs r s t k v w u (inr p) q o = assoc_at es fs gs r.1 s t.1 k v w u p q o

  assoc_values : (vs ws us : Values) → AreAlike vs ws → AreAlike ws us → AreAlike vs us → join_values (join_values vs ws) us ≡ join_values vs (join_values ws us)
  assoc_values no_value ws us r s t = refl
  assoc_values (value v vs) (value w ws) (value u us) r s t =
      let e : join (join v w) u ≡ join v (join w u) = assoc v w u r.0 s.0 t.0 in
      let f : join_values (join_values vs ws) us ≡ join_values vs (join_values ws us) = assoc_values vs ws us r.1 s.1 t.1 in
      λ i. value (e i) (f i)
  assoc_values (value v vs) (value w ws) no_value r s t = absurd s
  assoc_values (value v vs) no_value us r s t = absurd r

-- ---- a value and itself, a value and bottom

mutual
  idem : (x : Value) → join x x ≡ x
  idem (Taint a) = ap Taint (or-idem a)
  idem (Scalar k a) = ap (Scalar k) (first-idem (pick_cmp k) (pick_total k) a)
  idem (Set k a) = ap (Set k) (greedy-idem scalar_cmp scalar_total a)
  idem (Counter a) = ap Counter (with-idem atom_cmp atoms_total max a (EachPair-from (λ k v. max v v ≡ v) a (λ k v at. omega arith)))
  idem (Map a) = ap Map (pairs-injective (join_entries a a) a (pairs-join a a ∙ with-idem scalar_cmp scalar_total join (pairs a) (idem_each a)))
  idem (Bag a) = ap Bag (idem_values a)

  idem_each : (es : Entries) → EachPair (λ k v. join v v ≡ v) (pairs es)
  idem_each no_entry = tt
  idem_each (entry k v es) = (idem v, idem_each es)

  idem_values : (vs : Values) → join_values vs vs ≡ vs
  idem_values no_value = refl
  idem_values (value v vs) = λ i. value (idem v i) (idem_values vs i)

mutual
  bottom_joined : (b x : Value) → Alike b x → IsBottom b → join b x ≡ x
  bottom_joined (Taint a) (Taint b) r e = ap (λ t. Taint (t || b)) e
  bottom_joined (Taint a) x r e = absurd r
  bottom_joined (Scalar k a) (Scalar l b) r e = λ i. Scalar (r i) (first_of (pick_cmp k) (e i) b)
  bottom_joined (Scalar k a) x r e = absurd r
  bottom_joined (Set k a) (Set l b) r e = λ i. Set (r i) (greedy_merge scalar_cmp (e i) b)
  bottom_joined (Set k a) x r e = absurd r
  bottom_joined (Counter a) (Counter b) r e = ap (λ l. Counter (merge_with atom_cmp max l b)) e
  bottom_joined (Counter a) x r e = absurd r
  bottom_joined (Map a) (Map b) r e = ap (λ l. Map (join_entries l b)) e
  bottom_joined (Map a) x r e = absurd r
  bottom_joined (Bag a) (Bag b) r e = ap Bag (bottoms_joined a b r e)
  bottom_joined (Bag a) x r e = absurd r

  bottoms_joined : (bs xs : Values) → AreAlike bs xs → AreBottom bs → join_values bs xs ≡ xs
  bottoms_joined no_value no_value r e = refl
  bottoms_joined no_value (value x xs) r e = absurd r
  bottoms_joined (value b bs) no_value r e = absurd r
  bottoms_joined (value b bs) (value x xs) r e =
      let f : join b x ≡ x = bottom_joined b x r.0 e.0 in
      let g : join_values bs xs ≡ xs = bottoms_joined bs xs r.1 e.1 in
      λ i. value (f i) (g i)

-- ---- which values are alike

mutual
  self : (x : Value) → Proper x → Alike x x
  self (Taint a) p = tt
  self (Scalar k a) p = refl
  self (Set k a) p = refl
  self (Counter a) p = tt
  self (Map a) p = self_entries a a p.1 (λ k v w s t. IsAt-unique scalar_cmp scalar_total (pairs a) k v w p.0 s t)
  self (Bag a) p = self_values a p

  self_entries : (es fs : Entries) → AreProperEntries es → ((k : ScalarValue) (v w : Value) → IsAt k v (pairs es) → IsAt k w (pairs fs) → v ≡ w) → AlikeEntries es fs
  self_entries no_entry fs p one = tt
  self_entries (entry k v es) fs p one =
      ((λ w at. subst (Alike v) (one k v w (inl (refl, refl)) at) (self v p.0)), self_entries es fs p.1 (λ j u w s t. one j u w (inr s) t))

  self_values : (vs : Values) → AreProper vs → AreAlike vs vs
  self_values no_value p = tt
  self_values (value v vs) p = (self v p.0, self_values vs p.1)

mutual
  back : (x y : Value) → Alike x y → Alike y x
  back (Taint a) (Taint b) r = tt
  back (Taint a) y r = absurd r
  back (Scalar k a) (Scalar l b) r = sym r
  back (Scalar k a) y r = absurd r
  back (Set k a) (Set l b) r = sym r
  back (Set k a) y r = absurd r
  back (Counter a) (Counter b) r = tt
  back (Counter a) y r = absurd r
  back (Map a) (Map b) r = AlikeEntries-from b a (λ k w v t s. back_at a b r k v w s t)
  back (Map a) y r = absurd r
  back (Bag a) (Bag b) r = back_values a b r
  back (Bag a) y r = absurd r

  back_at : (es fs : Entries) → AlikeEntries es fs → (k : ScalarValue) (v w : Value) → IsAt k v (pairs es) → IsAt k w (pairs fs) → Alike w v
  back_at no_entry fs r k v w s t = absurd s
  back_at (entry l u es) fs r k v w (inl s) t = subst (Alike w) (sym s.1) (back u w (r.0 w (subst (λ j. IsAt j w (pairs fs)) s.0 t)))
  back_at (entry l u es) fs r k v w (inr s) t = back_at es fs r.1 k v w s t

  back_values : (vs ws : Values) → AreAlike vs ws → AreAlike ws vs
  back_values no_value no_value r = tt
  back_values no_value (value w ws) r = absurd r
  back_values (value v vs) no_value r = absurd r
  back_values (value v vs) (value w ws) r = (back v w r.0, back_values vs ws r.1)

mutual
  joined : (x y z : Value) → Alike x y → Alike y z → Alike x z → Alike (join x y) z
  joined (Taint a) (Taint b) (Taint c) r s t = tt
  joined (Taint a) (Taint b) z r s t = absurd s
  joined (Taint a) y z r s t = absurd r
  joined (Scalar k a) (Scalar l b) (Scalar m c) r s t = t
  joined (Scalar k a) (Scalar l b) z r s t = absurd s
  joined (Scalar k a) y z r s t = absurd r
  joined (Set k a) (Set l b) (Set m c) r s t = t
  joined (Set k a) (Set l b) z r s t = absurd s
  joined (Set k a) y z r s t = absurd r
  joined (Counter a) (Counter b) (Counter c) r s t = tt
  joined (Counter a) (Counter b) z r s t = absurd s
  joined (Counter a) y z r s t = absurd r
  joined (Map a) (Map b) (Map c) r s t =
      AlikeEntries-from (join_entries a b) c (λ k v u at o. by k v u (with-from scalar_cmp join (pairs a) (pairs b) k v (subst (IsAt k v) (pairs-join a b) at)) o (λ x y p q. joined_at a b c r s t k x y u p q o))
    where
      by : (k : ScalarValue) (v u : Value) → From scalar_cmp join (pairs a) (pairs b) k v → IsAt k u (pairs c)
          → ((x y : Value) → IsAt k x (pairs a) → IsAt k y (pairs b) → Alike (join x y) u) → Alike v u
      by k v u (inl p) o deeper = AlikeEntries-at a c k v u t p o
      by k v u (inr (inl p)) o deeper = AlikeEntries-at b c k v u s p o
      by k v u (inr (inr m)) o deeper =
          subst (λ x. Alike x u) (sym m.made) (deeper m.first m.second m.in_first (subst (λ j. IsAt j m.second (pairs b)) (sym (scalar_exact k m.other m.tied)) m.in_second))
  joined (Map a) (Map b) z r s t = absurd s
  joined (Map a) y z r s t = absurd r
  joined (Bag a) (Bag b) (Bag c) r s t = joined_values a b c r s t
  joined (Bag a) (Bag b) z r s t = absurd s
  joined (Bag a) y z r s t = absurd r

  joined_at : (es fs gs : Entries) → AlikeEntries es fs → AlikeEntries fs gs → AlikeEntries es gs → (k : ScalarValue) (v w u : Value)
      → IsAt k v (pairs es) → IsAt k w (pairs fs) → IsAt k u (pairs gs) → Alike (join v w) u
  joined_at no_entry fs gs r s t k v w u p q o = absurd p
  joined_at (entry l x es) fs gs r s t k v w u (inl p) q o =
      subst (λ y. Alike (join y w) u) (sym p.1)
      (joined x w u (r.0 w (subst (λ j. IsAt j w (pairs fs)) p.0 q)) (AlikeEntries-at fs gs k w u s q o) (t.0 u (subst (λ j. IsAt j u (pairs gs)) p.0 o)))
  joined_at (entry l x es) fs gs r s t k v w u (inr p) q o = joined_at es fs gs r.1 s t.1 k v w u p q o

  joined_values : (vs ws us : Values) → AreAlike vs ws → AreAlike ws us → AreAlike vs us → AreAlike (join_values vs ws) us
  joined_values no_value ws us r s t = t
  joined_values (value v vs) (value w ws) (value u us) r s t = (joined v w u r.0 s.0 t.0, joined_values vs ws us r.1 s.1 t.1)
  joined_values (value v vs) (value w ws) no_value r s t = absurd s
  joined_values (value v vs) no_value us r s t = absurd r

-- ---- the join of proper values is proper

-- counts within a bound
pub joined_counts : (a b : List (List ℕ × ℕ)) → Rises atom_cmp (keys_of a) → Rises atom_cmp (keys_of b) → EachPair (λ w n. n < 2 ^ 64) a → EachPair (λ w n. n < 2 ^ 64) b
    → EachPair (λ w n. n < 2 ^ 64) (merge_with atom_cmp max a b)
joined_counts a b p q f g =
    EachPair-merged atom_cmp atoms_total atoms_anti max (λ w n. n < 2 ^ 64) (λ w n. n < 2 ^ 64) (λ w n. n < 2 ^ 64) a b p q
    (λ k m n i j l h. omega (arith, l, h)) (λ k m i no l. l) (λ k n no j h. h) f g

mutual
  proper : (x y : Value) → Proper x → Proper y → Alike x y → Proper (join x y)
  proper (Taint a) (Taint b) p q r = tt
  proper (Taint a) y p q r = absurd r
  proper (Scalar k a) (Scalar l b) p q r = tt
  proper (Scalar k a) y p q r = absurd r
  proper (Set k a) (Set l b) p q r = (
    Rises-greedy scalar_cmp scalar_total a b p.0 q.0,
    All-greedy scalar_cmp scalar_total scalar_exact (IsScalarOf k) a b p.1 (subst (λ m. AllByRecursion (IsScalarOf m) b) (sym r) q.1),
  )
  proper (Set k a) y p q r = absurd r
  proper (Counter a) (Counter b) p q r = (Rises-merged atom_cmp atoms_total atoms_anti max a b p.0 q.0, joined_counts a b p.0 q.0 p.1 q.1)
  proper (Counter a) y p q r = absurd r
  proper (Map a) (Map b) p q r = (
    subst (λ l. Rises scalar_cmp (keys_of l)) (sym (pairs-join a b)) (Rises-merged scalar_cmp scalar_total scalar_exact join (pairs a) (pairs b) p.0 q.0),
    AreProperEntries-from (join_entries a b) (λ k v at. by k v (with-from scalar_cmp join (pairs a) (pairs b) k v (subst (IsAt k v) (pairs-join a b) at)) (λ x y s t. proper_at a b p.1 q.1 r k x y s t)),
  )
    where
      by : (k : ScalarValue) (v : Value) → From scalar_cmp join (pairs a) (pairs b) k v → ((x y : Value) → IsAt k x (pairs a) → IsAt k y (pairs b) → Proper (join x y)) → Proper v
      by k v (inl s) deeper = AreProperEntries-at a k v p.1 s
      by k v (inr (inl s)) deeper = AreProperEntries-at b k v q.1 s
      by k v (inr (inr m)) deeper =
          subst Proper (sym m.made) (deeper m.first m.second m.in_first (subst (λ j. IsAt j m.second (pairs b)) (sym (scalar_exact k m.other m.tied)) m.in_second))
  proper (Map a) y p q r = absurd r
  proper (Bag a) (Bag b) p q r = proper_values a b p q r
  proper (Bag a) y p q r = absurd r

  proper_at : (es fs : Entries) → AreProperEntries es → AreProperEntries fs → AlikeEntries es fs → (k : ScalarValue) (v w : Value)
      → IsAt k v (pairs es) → IsAt k w (pairs fs) → Proper (join v w)
  proper_at no_entry fs p q r k v w s t = absurd s
  proper_at (entry l x es) fs p q r k v w (inl s) t =
      subst (λ y. Proper (join y w)) (sym s.1) (proper x w p.0 (AreProperEntries-at fs k w q t) (r.0 w (subst (λ j. IsAt j w (pairs fs)) s.0 t)))
  proper_at (entry l x es) fs p q r k v w (inr s) t = proper_at es fs p.1 q r.1 k v w s t

  proper_values : (vs ws : Values) → AreProper vs → AreProper ws → AreAlike vs ws → AreProper (join_values vs ws)
  proper_values no_value ws p q r = tt
  proper_values (value v vs) no_value p q r = absurd r
  proper_values (value v vs) (value w ws) p q r = (proper v w p.0 q.0 r.0, proper_values vs ws p.1 q.1 r.1)

-- ---- the laws of a lattice's join, in the form in which a type with such values owes them

pub Alike-self : (x : Value) → Proper x → Alike x x
Alike-self x p = self x p

pub Alike-back : (x y : Value) → Proper x → Proper y → Alike x y → Alike y x
Alike-back x y p q r = back x y r

pub Alike-joined : (x y z : Value) → Proper x → Proper y → Proper z → Alike x y → Alike y z → Alike x z → Alike (join x y) z
Alike-joined x y z p q o r s t = joined x y z r s t

pub Proper-joined : (x y : Value) → Proper x → Proper y → Alike x y → Proper (join x y)
Proper-joined x y p q r = proper x y p q r

pub join-commutes : (x y : Value) → Proper x → Proper y → Alike x y → join x y ≡ join y x
join-commutes x y p q r = comm x y r

pub join-regroups : (x y z : Value) → Proper x → Proper y → Proper z → Alike x y → Alike y z → Alike x z → join (join x y) z ≡ join x (join y z)
join-regroups x y z p q o r s t = assoc x y z r s t

pub join-repeats : (x : Value) → Proper x → join x x ≡ x
join-repeats x p = idem x

pub join-bottom : (b x : Value) → Proper b → Proper x → Alike b x → IsBottom b → join b x ≡ x
join-bottom b x p q r e = bottom_joined b x r e
