-- All paths say a value, typed or not.
use Rattle.std.proofs.Common.{◌≡◌, ◌≢◌, ◌⊎◌, inl, inr, ◌↔◌, ℕ, ◌-◌, ◌*◌, ◌^◌, ◌<◌, ◌≤◌, true, false, List, [], ◌∷◌, length, Option, Some, None, Ordering, Less, Equal, Greater, refl, sym, ap, ◌∙◌, subst, arith}
use Rattle.std.specs.Cmp.{IsTotalOrder, tied_itself}
use Rattle.std.specs.Ordering.{ordering_reverse}
use Rattle.context_model.specs.Paths.{paths}
use Rattle.context_model.specs.Orders.{Path, atom_cmp, IsIn, Rises, by_order}
use Rattle.context_model.specs.GreedyMerge.{greedy_merge, first_of}
use Rattle.context_model.specs.KeyedMerge.{keys_of, EachPair}
use Rattle.context_model.specs.Varints.{unsigned_varint}
use Rattle.context_model.proofs.OrderLaws.{atoms_total, atoms_anti}
use Rattle.context_model.proofs.GreedyElements.{IsIn-greedy}
use Rattle.context_model.proofs.Rising.{Rises-greedy}
use Rattle.context_model.proofs.VarintLaws.{unsigned_varint-injective}
use Rattle.bag_model.specs.Scalars.{ScalarKind, ScalarValue, scalar_cmp, IsScalarOf, spelling, pick_cmp}
use Rattle.bag_model.specs.Shapes.{Shape, Nodes, Taint, Scalar, Set, Counter, Map, Bag, no_node, node}
use Rattle.bag_model.specs.Values.{Value, Values, Taint, Scalar, Set, Counter, Map, Bag, no_value, value}
use Rattle.bag_model.specs.Readings.{key_path, node_path, HasScalar, IsFirst, IsGreatest, HasKey, Reads, ReadsEach}
use Rattle.bag_model.specs.Typed.{IsSpelling, IsCount, AllListsSay, TypedListsSay}
use Rattle.bag_model.proofs.ScalarOrder.{scalar_total, scalar_exact, pick_total}
use Rattle.bag_model.proofs.SpellingOrder.{spelling-one}
use Rattle.bag_model.proofs.SpellingTests.{Decided, spelling_or_not, count_or_not}
use Rattle.bag_model.proofs.PairLaws.{entries_from, pairs-entries}
use Rattle.bag_model.proofs.Finite.{bytes_at, bytes_at-there, bytes_at-back}

-- The path is one of these.
abbrev pub Among : List Path → Path → Type 0
Among ps p = IsIn p ps

-- ---- lists in order

-- some elements in order
pub record InOrder {K : Type 0} (R : K → K → Ordering) (P : K → Type 0) : Type 0 where
  pub items : List K
  pub rises : Rises R items
  pub are : (k : K) → IsIn k items ↔ P k

-- The elements of a list in order.
pub sorted : (xs : List (List ℕ)) → InOrder atom_cmp (λ x. IsIn x xs)
sorted [] = record { items = []; rises = tt; are = λ k. ((λ i. i), λ i. i) }
sorted (x ∷ xs) = by (sorted xs)
  where
    by : InOrder atom_cmp (λ y. IsIn y xs) → InOrder atom_cmp (λ y. IsIn y (x ∷ xs))
    by rest = record {
      items = greedy_merge atom_cmp (x ∷ []) rest.items;
      rises = Rises-greedy atom_cmp atoms_total (x ∷ []) rest.items tt rest.rises;
      are = λ k. (
        λ i. elim ((IsIn-greedy atom_cmp atoms_total atoms_anti (x ∷ []) rest.items k).0 i) [ inl j ↦ elim j [ inl e ↦ inl e | inr none ↦ absurd none ] | inr j ↦ inr ((rest.are k).0 j) ],
        λ i. (IsIn-greedy atom_cmp atoms_total atoms_anti (x ∷ []) rest.items k).1 (elim i [ inl e ↦ inl (inl e) | inr j ↦ inr ((rest.are k).1 j) ]),
      );
    }

-- The values that some bytes spell, in order.
pub spelled : (kind : ScalarKind) (all : List (List ℕ)) → InOrder scalar_cmp (λ v. IsScalarOf kind v × IsIn (spelling kind v) all)
spelled kind [] = record { items = []; rises = tt; are = λ v. ((λ none. absurd none), λ h. h.1) }
spelled kind (bytes ∷ all) = by (spelling_or_not kind bytes) (spelled kind all)
  where
    by : Decided (IsSpelling kind bytes) → InOrder scalar_cmp (λ v. IsScalarOf kind v × IsIn (spelling kind v) all) → InOrder scalar_cmp (λ v. IsScalarOf kind v × IsIn (spelling kind v) (bytes ∷ all))
    by (inr none) rest = record {
      items = rest.items;
      rises = rest.rises;
      are = λ v. (
        λ i. let h = (rest.are v).0 i in (h.0, inr h.1),
        λ h. (rest.are v).1 (h.0, elim h.1 [ inl e ↦ absurd (none (v, h.0, sym e)) | inr j ↦ j ]),
      );
    }
    by (inl s) rest = record {
      items = greedy_merge scalar_cmp (s.0 ∷ []) rest.items;
      rises = Rises-greedy scalar_cmp scalar_total (s.0 ∷ []) rest.items tt rest.rises;
      are = λ v. (
        λ i. there v ((IsIn-greedy scalar_cmp scalar_total scalar_exact (s.0 ∷ []) rest.items v).0 i),
        λ h. (IsIn-greedy scalar_cmp scalar_total scalar_exact (s.0 ∷ []) rest.items v).1
            (elim h.1 [ inl e ↦ inl (inl (spelling-one kind v s.0 h.0 s.1 (e ∙ s.2))) | inr j ↦ inr ((rest.are v).1 (h.0, j)) ]),
      );
    }
      where
        there : (v : ScalarValue) → IsIn v (s.0 ∷ []) ⊎ IsIn v rest.items → IsScalarOf kind v × IsIn (spelling kind v) (bytes ∷ all)
        there v (inl (inl e)) = (subst (IsScalarOf kind) (sym e) s.1, inl (ap (spelling kind) e ∙ sym s.2))
        there v (inl (inr none)) = absurd none
        there v (inr j) = let h = (rest.are v).0 j in (h.0, inr h.1)

-- ---- the first of some values

module _ (R : ScalarValue → ScalarValue → Ordering) (total : IsTotalOrder R) where
  -- the first of a list, or none where it is empty
  abbrev IsFirstIn : List ScalarValue → Option ScalarValue → Type 0
  IsFirstIn vs None = (w : ScalarValue) → IsIn w vs → ⊥
  IsFirstIn vs (Some v) = IsIn v vs × ((w : ScalarValue) → IsIn w vs → R w v ≢ Less)

  step_first : (v : ScalarValue) (vs : List ScalarValue) (o : Option ScalarValue) → IsFirstIn vs o → IsFirstIn (v ∷ vs) (first_of R (Some v) o)
  step_first v vs None f = (inl refl, λ w i. elim i [ inl e ↦ itself w e | inr j ↦ absurd (f w j) ])
    where
      itself : (w : ScalarValue) → w ≡ v → R w v ≢ Less
      itself w e l = let tie : R w v ≡ Equal = ap (λ x. R x v) e ∙ tied_itself total v in let clash : Less ≡ Equal = sym l ∙ tie in cc
  step_first v vs (Some u) f = by (R v u) refl
    where
      itself : (x w : ScalarValue) → w ≡ x → R w x ≢ Less
      itself x w e l = let tie : R w x ≡ Equal = ap (λ y. R y x) e ∙ tied_itself total x in let clash : Less ≡ Equal = sym l ∙ tie in cc

      by : (r : Ordering) → R v u ≡ r → IsFirstIn (v ∷ vs) (by_order r (Some v) (Some v) (Some u))
      by Less e = (inl refl, λ w i. elim i [ inl s ↦ itself v w s | inr j ↦ λ l. f.1 w j (total.trans w v u l e) ])
      by Equal e = (inl refl, λ w i. elim i [ inl s ↦ itself v w s | inr j ↦ λ l. f.1 w j (behind w l) ])
        where
          behind : (w : ScalarValue) → R w v ≡ Less → R w u ≡ Less
          behind w l = total.antisymm w u ∙ ap ordering_reverse (sym (total.congr v u w e) ∙ total.antisymm v w ∙ ap ordering_reverse l)
      by Greater e = (inr f.0, λ w i. elim i [ inl s ↦ after w s | inr j ↦ f.1 w j ])
        where
          after : (w : ScalarValue) → w ≡ v → R w u ≢ Less
          after w s l = let g : R w u ≡ Greater = ap (λ x. R x u) s ∙ e in let clash : Less ≡ Greater = sym l ∙ g in cc

  first_in : (vs : List ScalarValue) → (o : Option ScalarValue) × IsFirstIn vs o
  first_in [] = (None, λ w none. none)
  first_in (v ∷ vs) = by (first_in vs)
    where
      by : (o : Option ScalarValue) × IsFirstIn vs o → (o : Option ScalarValue) × IsFirstIn (v ∷ vs) o
      by f = (first_of R (Some v) f.0, step_first v vs f.0 f.1)

-- ---- the values at a path

module _ (ps : List Path) (q : Path) where
  -- the data and the keys at q
  data_all : List (List ℕ)
  data_all = bytes_at 0 q ps

  keys_all : List (List ℕ)
  keys_all = bytes_at (249 - 8 * length q) q ps

  pub scalars_there : (kind : ScalarKind) → InOrder scalar_cmp (HasScalar kind (Among ps) q)
  unfolding data_all
  scalars_there kind = record {
    items = s.items;
    rises = s.rises;
    are = λ v. ((λ i. let h = (s.are v).0 i in (h.0, bytes_at-there 0 q ps (spelling kind v) h.1)), λ h. (s.are v).1 (h.0, bytes_at-back 0 q ps (spelling kind v) h.1));
  }
    where
      s : InOrder scalar_cmp (λ v. IsScalarOf kind v × IsIn (spelling kind v) data_all)
      s = spelled kind data_all

  pub keys_there : (kind : ScalarKind) → InOrder scalar_cmp (HasKey kind (Among ps) q)
  unfolding keys_all
  keys_there kind = record {
    items = s.items;
    rises = s.rises;
    are = λ v. ((λ i. let h = (s.are v).0 i in (h.0, bytes_at-there (249 - 8 * length q) q ps (spelling kind v) h.1)), λ h. (s.are v).1 (h.0, bytes_at-back (249 - 8 * length q) q ps (spelling kind v) h.1));
  }
    where
      s : InOrder scalar_cmp (λ v. IsScalarOf kind v × IsIn (spelling kind v) keys_all)
      s = spelled kind keys_all

  pub writers_there : InOrder atom_cmp (λ w. Among ps (key_path q w))
  unfolding keys_all
  writers_there = record {
    items = s.items;
    rises = s.rises;
    are = λ w. ((λ i. bytes_at-there (249 - 8 * length q) q ps w ((s.are w).0 i)), λ i. (s.are w).1 (bytes_at-back (249 - 8 * length q) q ps w i));
  }
    where
      s : InOrder atom_cmp (λ w. IsIn w keys_all)
      s = sorted keys_all

  pub first_there : (R : ScalarValue → ScalarValue → Ordering) → IsTotalOrder R → (kind : ScalarKind) → (o : Option ScalarValue) × IsFirst R kind (Among ps) q o
  first_there R total kind = by (first_in R total s.items)
    where
      s : InOrder scalar_cmp (HasScalar kind (Among ps) q)
      s = scalars_there kind

      is : (o : Option ScalarValue) → IsFirstIn R total s.items o → IsFirst R kind (Among ps) q o
      is None f = λ w h. f w ((s.are w).1 h)
      is (Some v) f = ((s.are v).0 f.0, λ w h. f.1 w ((s.are w).1 h))

      by : (o : Option ScalarValue) × IsFirstIn R total s.items o → (o : Option ScalarValue) × IsFirst R kind (Among ps) q o
      by f = (f.0, is f.0 f.1)

-- the greatest count that some bytes spell
abbrev IsGreatestIn : List (List ℕ) → ℕ → Type 0
IsGreatestIn all n = (((n < 2 ^ 64) × IsIn (unsigned_varint n) all) ⊎ (n ≡ 0)) × ((m : ℕ) → m < 2 ^ 64 → IsIn (unsigned_varint m) all → m ≤ n)

greatest_in : (all : List (List ℕ)) → (n : ℕ) × IsGreatestIn all n
greatest_in [] = (0, (inr refl, λ m l none. absurd none))
greatest_in (bytes ∷ all) = by (count_or_not bytes) (greatest_in all)
  where
    own : (n : ℕ) → ((n < 2 ^ 64) × IsIn (unsigned_varint n) all) ⊎ (n ≡ 0) → ((n < 2 ^ 64) × IsIn (unsigned_varint n) (bytes ∷ all)) ⊎ (n ≡ 0)
    own n (inl h) = inl (h.0, inr h.1)
    own n (inr e) = inr e

    by : Decided (IsCount bytes) → (n : ℕ) × IsGreatestIn all n → (n : ℕ) × IsGreatestIn (bytes ∷ all) n
    by (inr none) g = (g.0, (own g.0 g.1.0, λ m h i. elim i [ inl e ↦ absurd (none (m, h, sym e)) | inr j ↦ g.1.1 m h j ]))
    by (inl c) g = pick (grind arith)
      where
        same : (m : ℕ) → m < 2 ^ 64 → unsigned_varint m ≡ bytes → m ≡ c.0
        same m l e = unsigned_varint-injective m c.0 l c.1 (e ∙ c.2)

        pick : (g.0 ≤ c.0) ⊎ (c.0 ≤ g.0) → (n : ℕ) × IsGreatestIn (bytes ∷ all) n
        pick (inl l) = (c.0, (inl (c.1, inl (sym c.2)), λ m h i. elim i [ inl e ↦ let s : m ≡ c.0 = same m h e in omega arith | inr j ↦ let s : m ≤ g.0 = g.1.1 m h j in omega arith ]))
        pick (inr l) = (g.0, (own g.0 g.1.0, λ m h i. elim i [ inl e ↦ let s : m ≡ c.0 = same m h e in omega arith | inr j ↦ g.1.1 m h j ]))

greatest_there : (ps : List Path) (q : Path) → (n : ℕ) × IsGreatest (Among ps) q n
greatest_there ps q = by (greatest_in (bytes_at 0 q ps))
  where
    by : (n : ℕ) × IsGreatestIn (bytes_at 0 q ps) n → (n : ℕ) × IsGreatest (Among ps) q n
    by g = (g.0, (elim g.1.0 [ inl h ↦ inl (h.0, bytes_at-there 0 q ps (unsigned_varint g.0) h.1) | inr e ↦ inr e ], λ m h. g.1.1 m h.0 (bytes_at-back 0 q ps (unsigned_varint m) h.1)))

-- ---- keys with values

module _ {K X : Type 0} (E : K → X → Type 0) where
  -- each key with a value of its own
  pub paired : (ks : List K) → ((k : K) → IsIn k ks → (x : X) × E k x) → (es : List (K × X)) × (keys_of es ≡ ks) × EachPair E es
  paired [] each = ([], refl, tt)
  paired (k ∷ ks) each = by (each k (inl refl)) (paired ks (λ j i. each j (inr i)))
    where
      by : (x : X) × E k x → (es : List (K × X)) × (keys_of es ≡ ks) × EachPair E es → (es : List (K × X)) × (keys_of es ≡ k ∷ ks) × EachPair E es
      by x rest = ((k, x.0) ∷ rest.0, ap (λ l. k ∷ l) rest.1, (x.1, rest.2))

some_taint : (ps : List Path) (q : Path) → (v : Value) × Reads Taint (Among ps) q v
some_taint ps q = by (bytes_at 0 q ps) refl
  where
    by : (all : List (List ℕ)) → bytes_at 0 q ps ≡ all → (v : Value) × Reads Taint (Among ps) q v
    by [] e = (Taint false, ((λ t. absurd (cc t)), λ d. absurd (subst (IsIn d.0) e (bytes_at-back 0 q ps d.0 d.1))))
    by (bytes ∷ all) e = (Taint true, ((λ t. (bytes, bytes_at-there 0 q ps bytes (subst (IsIn bytes) (sym e) (inl refl)))), λ d. refl))

some_counter : (ps : List Path) (q : Path) → (v : Value) × Reads Counter (Among ps) q v
some_counter ps q = by (paired (λ w n. IsGreatest (Among ps) (key_path q w) n) s.items (λ w i. greatest_there ps (key_path q w)))
  where
    s : InOrder atom_cmp (λ w. Among ps (key_path q w))
    s = writers_there ps q

    by : (es : List (List ℕ × ℕ)) × (keys_of es ≡ s.items) × EachPair (λ w n. IsGreatest (Among ps) (key_path q w) n) es → (v : Value) × Reads Counter (Among ps) q v
    by es = (
      Counter es.0,
      (
        subst (Rises atom_cmp) (sym es.1) s.rises,
        λ w. ((λ i. (s.are w).0 (subst (IsIn w) es.1 i)), λ h. subst (IsIn w) (sym es.1) ((s.are w).1 h)),
        es.2,
      ),
    )

some_map : (ps : List Path) (q : Path) (kind : ScalarKind) (shape : Shape)
    → ((key : List ℕ) → (v : Value) × Reads shape (Among ps) (key_path q key) v)
    → (v : Value) × Reads (Map kind shape) (Among ps) q v
some_map ps q kind shape below = by (paired (λ k v. Reads shape (Among ps) (key_path q (spelling kind k)) v) s.items (λ k i. below (spelling kind k)))
  where
    s : InOrder scalar_cmp (HasKey kind (Among ps) q)
    s = keys_there ps q kind

    by : (es : List (ScalarValue × Value)) × (keys_of es ≡ s.items) × EachPair (λ k v. Reads shape (Among ps) (key_path q (spelling kind k)) v) es → (v : Value) × Reads (Map kind shape) (Among ps) q v
    by es = (
      Map (entries_from es.0),
      subst (λ l. Rises scalar_cmp (keys_of l) × ((key : ScalarValue) → IsIn key (keys_of l) ↔ HasKey kind (Among ps) q key) × EachPair (λ k v. Reads shape (Among ps) (key_path q (spelling kind k)) v) l)
          (sym (pairs-entries es.0)) (
            subst (Rises scalar_cmp) (sym es.1) s.rises,
            λ k. ((λ i. (s.are k).0 (subst (IsIn k) es.1 i)), λ h. subst (IsIn k) (sym es.1) ((s.are k).1 h)),
            es.2,
          ),
    )

mutual
  -- Some paths say a value, whether they are typed or not.
  pub Reads-all : (shape : Shape) (ps : List Path) (q : Path) → (v : Value) × Reads shape (Among ps) q v
  Reads-all Taint ps q = some_taint ps q
  Reads-all (Scalar pick kind) ps q = let o = first_there ps q (pick_cmp pick) (pick_total pick) kind in (Scalar pick o.0, (refl, o.1))
  Reads-all (Set kind) ps q = let s = scalars_there ps q kind in (Set kind s.items, (refl, s.rises, s.are))
  Reads-all Counter ps q = some_counter ps q
  Reads-all (Map kind shape) ps q = some_map ps q kind shape (λ key. Reads-all shape ps (key_path q key))
  Reads-all (Bag nodes) ps q = let vs = ReadsEach-all nodes ps q in (Bag vs.0, vs.1)

  pub ReadsEach-all : (nodes : Nodes) (ps : List Path) (q : Path) → (vs : Values) × ReadsEach nodes (Among ps) q vs
  ReadsEach-all no_node ps q = (no_value, tt)
  ReadsEach-all (node name number shape nodes) ps q =
      let v = Reads-all shape ps (node_path q number) in
      let vs = ReadsEach-all nodes ps q in
      (value v.0 vs.0, (v.1, vs.1))

pub all_lists_say : AllListsSay
all_lists_say nodes list = ReadsEach-all nodes (paths list) []

pub typed_lists_say : TypedListsSay
typed_lists_say nodes list t = all_lists_say nodes list
