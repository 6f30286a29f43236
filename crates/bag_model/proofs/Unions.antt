-- What is read of a union of two sets of paths is the join of what is read of each.
use Rattle.std.proofs.Common.{◌≡◌, ◌≢◌, ◌⊎◌, inl, inr, ◌↔◌, ℕ, ◌-◌, ◌*◌, ◌≤◌, max, Bool, true, false, ◌||◌, IsTrue, List, [], ◌∷◌, ◌++◌, length, Option, Some, None, Ordering, Less, Equal, Greater, refl, sym, ap, ◌∙◌, subst, arith}
use Rattle.std.specs.Cmp.{IsTotalOrder, alike_right}
use Rattle.std.specs.Ordering.{ordering_reverse}
use Rattle.context_model.specs.Kinds.{atom_of}
use Rattle.context_model.specs.Kinds.Kind.{Indexed, Keyed}
use Rattle.context_model.specs.Orders.{Path, atom_cmp, IsIn, Rises, by_order}
use Rattle.context_model.specs.GreedyMerge.{first_of}
use Rattle.context_model.specs.KeyedMerge.{merge_with, keys_of, EachPair, IsUnion}
use Rattle.context_model.specs.Varints.{unsigned_varint}
use Rattle.context_model.proofs.OrderLaws.{atoms_total, atoms_anti}
use Rattle.context_model.proofs.GreedyElements.{IsIn-greedy}
use Rattle.context_model.proofs.MergeLaws.{EachPair-at, EachPair-from}
use Rattle.context_model.proofs.Rising.{Rises-greedy}
use Rattle.bag_model.specs.declared.Pick.{Pick}
use Rattle.bag_model.specs.Scalars.{ScalarKind, ScalarValue, scalar_cmp, spelling, pick_cmp}
use Rattle.bag_model.specs.Shapes.{Shape, Nodes, Taint, Scalar, Set, Counter, Map, Bag, no_node, node}
use Rattle.bag_model.specs.Values.{Value, Values, Taint, Scalar, Set, Counter, Map, Bag, no_value, value, pairs}
use Rattle.bag_model.specs.Joins.{join, join_values}
use Rattle.bag_model.specs.Readings.{datum_path, key_path, node_path, HasScalar, IsFirst, HasCount, IsGreatest, HasKey, Reads, ReadsEach}
use Rattle.bag_model.proofs.ScalarOrder.{scalar_total, scalar_exact, pick_total}
use Rattle.bag_model.proofs.PathSets.{Both, SameBelow, HasKeyHeaders, same_step, same_first, same_second}
use Rattle.bag_model.proofs.PairLaws.{Rises-merged, keys-merged, EachPair-merged, pairs-join}

-- ---- the reading depends on what is below its path alone, and on no marker

module _ (P Q : Path → Type 0) (q : Path) (s : SameBelow q P Q) where
  pub datum_there : (payload : List ℕ) → P (datum_path q payload) → Q (datum_path q payload)
  datum_there payload i = s.0 [] 0 payload i

  pub datum_back : (payload : List ℕ) → Q (datum_path q payload) → P (datum_path q payload)
  datum_back payload i = s.1 [] 0 payload i

  pub key_there : (key : List ℕ) → P (key_path q key) → Q (key_path q key)
  key_there key i = s.0 [] (249 - 8 * length q) key i

  pub key_back : (key : List ℕ) → Q (key_path q key) → P (key_path q key)
  key_back key i = s.1 [] (249 - 8 * length q) key i

  pub below_key : (key : List ℕ) → SameBelow (key_path q key) P Q
  below_key key = same_step q (atom_of (Keyed (length q) key)) P Q s

  pub below_node : (number : ℕ) → SameBelow (node_path q number) P Q
  below_node number = same_step q (atom_of (Indexed (length q) number)) P Q s

  scalar_there : (kind : ScalarKind) (v : ScalarValue) → HasScalar kind P q v → HasScalar kind Q q v
  scalar_there kind v h = (h.0, datum_there (spelling kind v) h.1)

  scalar_back : (kind : ScalarKind) (v : ScalarValue) → HasScalar kind Q q v → HasScalar kind P q v
  scalar_back kind v h = (h.0, datum_back (spelling kind v) h.1)

  pub IsFirst-alike : (R : ScalarValue → ScalarValue → Ordering) (kind : ScalarKind) (o : Option ScalarValue) → IsFirst R kind P q o → IsFirst R kind Q q o
  IsFirst-alike R kind None f = λ w h. f w (scalar_back kind w h)
  IsFirst-alike R kind (Some v) f = (scalar_there kind v f.0, λ w h. f.1 w (scalar_back kind w h))

  pub IsGreatest-alike : (n : ℕ) → IsGreatest P q n → IsGreatest Q q n
  IsGreatest-alike n g = (elim g.0 [ inl h ↦ inl (h.0, datum_there (unsigned_varint n) h.1) | inr e ↦ inr e ], λ m h. g.1 m (h.0, datum_back (unsigned_varint m) h.1))

  alike_taint : (v : Value) → Reads Taint P q v → Reads Taint Q q v
  alike_taint (Taint on) r = ((λ t. let d = r.0 t in (d.0, datum_there d.0 d.1)), λ d. r.1 (d.0, datum_back d.0 d.1))
  alike_taint other r = absurd r

  alike_scalar : (pick : Pick) (kind : ScalarKind) (v : Value) → Reads (Scalar pick kind) P q v → Reads (Scalar pick kind) Q q v
  alike_scalar pick kind (Scalar own o) r = (r.0, IsFirst-alike (pick_cmp pick) kind o r.1)
  alike_scalar pick kind other r = absurd r

  alike_set : (kind : ScalarKind) (v : Value) → Reads (Set kind) P q v → Reads (Set kind) Q q v
  alike_set kind (Set own vs) r = (r.0, r.1, λ v. ((λ i. scalar_there kind v ((r.2 v).0 i)), λ h. (r.2 v).1 (scalar_back kind v h)))
  alike_set kind other r = absurd r

  alike_counter : ((key : List ℕ) (n : ℕ) → IsGreatest P (key_path q key) n → IsGreatest Q (key_path q key) n) → (v : Value) → Reads Counter P q v → Reads Counter Q q v
  alike_counter below (Counter counts) r = (
    r.0,
    λ w. ((λ i. key_there w ((r.1 w).0 i)), λ h. (r.1 w).1 (key_back w h)),
    EachPair-from (λ w n. IsGreatest Q (key_path q w) n) counts (λ w n at. below w n (EachPair-at (λ w n. IsGreatest P (key_path q w) n) counts w n r.2 at)),
  )
  alike_counter below other r = absurd r

  alike_map : (kind : ScalarKind) (shape : Shape) → ((key : List ℕ) (v : Value) → Reads shape P (key_path q key) v → Reads shape Q (key_path q key) v)
      → (v : Value) → Reads (Map kind shape) P q v → Reads (Map kind shape) Q q v
  alike_map kind shape below (Map es) r = (
    r.0,
    λ k. ((λ i. let h = (r.1 k).0 i in (h.0, key_there (spelling kind k) h.1)), λ h. (r.1 k).1 (h.0, key_back (spelling kind k) h.1)),
    EachPair-from (λ k v. Reads shape Q (key_path q (spelling kind k)) v) (pairs es)
        (λ k v at. below (spelling kind k) v (EachPair-at (λ k v. Reads shape P (key_path q (spelling kind k)) v) (pairs es) k v r.2 at)),
  )
  alike_map kind shape below other r = absurd r

mutual
  -- Two sets that are the same below a path read the same there.
  pub Reads-alike : (shape : Shape) (P Q : Path → Type 0) (q : Path) (v : Value) → SameBelow q P Q → Reads shape P q v → Reads shape Q q v
  Reads-alike Taint P Q q v s r = alike_taint P Q q s v r
  Reads-alike (Scalar pick kind) P Q q v s r = alike_scalar P Q q s pick kind v r
  Reads-alike (Set kind) P Q q v s r = alike_set P Q q s kind v r
  Reads-alike Counter P Q q v s r = alike_counter P Q q s (λ key n g. IsGreatest-alike P Q (key_path q key) (below_key P Q q s key) n g) v r
  Reads-alike (Map kind shape) P Q q v s r = alike_map P Q q s kind shape (λ key w t. Reads-alike shape P Q (key_path q key) w (below_key P Q q s key) t) v r
  Reads-alike (Bag nodes) P Q q (Bag vs) s r = ReadsEach-alike nodes P Q q vs s r
  Reads-alike (Bag nodes) P Q q other s r = absurd r

  pub ReadsEach-alike : (nodes : Nodes) (P Q : Path → Type 0) (q : Path) (vs : Values) → SameBelow q P Q → ReadsEach nodes P q vs → ReadsEach nodes Q q vs
  ReadsEach-alike no_node P Q q no_value s r = tt
  ReadsEach-alike (node name number shape nodes) P Q q (value v vs) s r =
      (Reads-alike shape P Q (node_path q number) v (below_node P Q q s number) r.0, ReadsEach-alike nodes P Q q vs s r.1)
  ReadsEach-alike nodes P Q q vs s r = absurd r

-- ---- the union

-- the first of two in a total order
module _ (R : ScalarValue → ScalarValue → Ordering) (total : IsTotalOrder R) (kind : ScalarKind) (P Q : Path → Type 0) (q : Path) where
  pub IsFirst-union : (a b : Option ScalarValue) → IsFirst R kind P q a → IsFirst R kind Q q b → IsFirst R kind (Both P Q) q (first_of R a b)
  IsFirst-union None None f g = λ w h. elim h.1 [ inl i ↦ f w (h.0, i) | inr i ↦ g w (h.0, i) ]
  IsFirst-union None (Some w) f g = ((g.0.0, inr g.0.1), λ u h. elim h.1 [ inl i ↦ absurd (f u (h.0, i)) | inr i ↦ g.1 u (h.0, i) ])
  IsFirst-union (Some v) None f g = ((f.0.0, inl f.0.1), λ u h. elim h.1 [ inl i ↦ f.1 u (h.0, i) | inr i ↦ absurd (g u (h.0, i)) ])
  IsFirst-union (Some v) (Some w) f g = by (R v w) refl
    where
      from_first : ((u : ScalarValue) → HasScalar kind Q q u → R u v ≢ Less) → IsFirst R kind (Both P Q) q (Some v)
      from_first others = ((f.0.0, inl f.0.1), λ u h. elim h.1 [ inl i ↦ f.1 u (h.0, i) | inr i ↦ others u (h.0, i) ])

      from_second : ((u : ScalarValue) → HasScalar kind P q u → R u w ≢ Less) → IsFirst R kind (Both P Q) q (Some w)
      from_second others = ((g.0.0, inr g.0.1), λ u h. elim h.1 [ inl i ↦ others u (h.0, i) | inr i ↦ g.1 u (h.0, i) ])

      by : (r : Ordering) → R v w ≡ r → IsFirst R kind (Both P Q) q (by_order r (Some v) (Some v) (Some w))
      by Less e = from_first (λ u h l. g.1 u h (total.trans u v w l e))
      by Equal e = from_first (λ u h l. g.1 u h (sym (alike_right total v w u e) ∙ l))
      by Greater e = from_second (λ u h l. f.1 u h (total.trans u w v l (total.antisymm w v ∙ ap ordering_reverse e)))

-- the greater of two counts
pub IsGreatest-union : (P Q : Path → Type 0) (q : Path) (m n : ℕ) → IsGreatest P q m → IsGreatest Q q n → IsGreatest (Both P Q) q (max m n)
IsGreatest-union P Q q m n f g = (own f.0 g.0, λ o h. elim h.1 [ inl i ↦ let l : o ≤ m = f.1 o (h.0, i) in omega arith | inr i ↦ let l : o ≤ n = g.1 o (h.0, i) in omega arith ])
  where
    is_first : n ≤ m → HasCount P q m → HasCount (Both P Q) q (max m n)
    is_first l h = subst (HasCount (Both P Q) q) (let e : m ≡ max m n = omega arith in e) (h.0, inl h.1)

    is_second : m ≤ n → HasCount Q q n → HasCount (Both P Q) q (max m n)
    is_second l h = subst (HasCount (Both P Q) q) (let e : n ≡ max m n = omega arith in e) (h.0, inr h.1)

    by : HasCount P q m → HasCount Q q n → (m ≤ n) ⊎ (n ≤ m) → HasCount (Both P Q) q (max m n)
    by h k (inl l) = is_second l k
    by h k (inr l) = is_first l h

    own : HasCount P q m ⊎ (m ≡ 0) → HasCount Q q n ⊎ (n ≡ 0) → HasCount (Both P Q) q (max m n) ⊎ (max m n ≡ 0)
    own (inl h) (inl k) = inl (by h k (grind arith))
    own (inl h) (inr e) = inl (is_first (omega arith) h)
    own (inr e) (inl k) = inl (is_second (omega arith) k)
    own (inr e) (inr d) = inr (omega arith)

union_taint : (P Q : Path → Type 0) (q : Path) (v w : Value) → Reads Taint P q v → Reads Taint Q q w → Reads Taint (Both P Q) q (join v w)
union_taint P Q q (Taint a) (Taint b) r s = (there a b r.0 s.0, λ d. back a b (elim d.1 [ inl i ↦ inl (r.1 (d.0, i)) | inr i ↦ inr (s.1 (d.0, i)) ]))
  where
    Datum_at : (Path → Type 0) → Type 0
    Datum_at S = (payload : List ℕ) × S (datum_path q payload)

    there : (a b : Bool) → (IsTrue a → (payload : List ℕ) × P (datum_path q payload)) → (IsTrue b → (payload : List ℕ) × Q (datum_path q payload))
        → IsTrue (a || b) → (payload : List ℕ) × Both P Q (datum_path q payload)
    there true b f g t = let d = f refl in (d.0, inl d.1)
    there false true f g t = let d = g refl in (d.0, inr d.1)
    there false false f g t = absurd (cc t)

    back : (a b : Bool) → IsTrue a ⊎ IsTrue b → IsTrue (a || b)
    back true b t = refl
    back false b (inl t) = absurd (cc t)
    back false b (inr t) = t
union_taint P Q q (Taint a) w r s = absurd s
union_taint P Q q v w r s = absurd r

union_scalar : (pick : Pick) (kind : ScalarKind) (P Q : Path → Type 0) (q : Path) (v w : Value) → Reads (Scalar pick kind) P q v → Reads (Scalar pick kind) Q q w → Reads (Scalar pick kind) (Both P Q) q (join v w)
union_scalar pick kind P Q q (Scalar k a) (Scalar l b) r s = (
  r.0,
  subst (λ p. IsFirst (pick_cmp p) kind (Both P Q) q (first_of (pick_cmp k) a b)) r.0
      (IsFirst-union (pick_cmp k) (pick_total k) kind P Q q a b (subst (λ p. IsFirst (pick_cmp p) kind P q a) (sym r.0) r.1) (subst (λ p. IsFirst (pick_cmp p) kind Q q b) (sym r.0) s.1)),
)
union_scalar pick kind P Q q (Scalar k a) w r s = absurd s
union_scalar pick kind P Q q v w r s = absurd r

union_set : (kind : ScalarKind) (P Q : Path → Type 0) (q : Path) (v w : Value) → Reads (Set kind) P q v → Reads (Set kind) Q q w → Reads (Set kind) (Both P Q) q (join v w)
union_set kind P Q q (Set k a) (Set l b) r s = (
  r.0,
  Rises-greedy scalar_cmp scalar_total a b r.1 s.1,
  λ v. (
    λ i. elim ((IsIn-greedy scalar_cmp scalar_total scalar_exact a b v).0 i) [ inl j ↦ let h = (r.2 v).0 j in (h.0, inl h.1) | inr j ↦ let h = (s.2 v).0 j in (h.0, inr h.1) ],
    λ h. (IsIn-greedy scalar_cmp scalar_total scalar_exact a b v).1 (elim h.1 [ inl i ↦ inl ((r.2 v).1 (h.0, i)) | inr i ↦ inr ((s.2 v).1 (h.0, i)) ]),
  ),
)
union_set kind P Q q (Set k a) w r s = absurd s
union_set kind P Q q v w r s = absurd r

-- Where a set lacks a key there is nothing below it.
none_below : (P : Path → Type 0) (q : Path) (key : List ℕ) → HasKeyHeaders P → (P (key_path q key) → ⊥) → (a : _) (r : Path) → P (key_path q key ++ a ∷ r) → ⊥
none_below P q key h none a r i = none (h q key a r i)

union_counter : (P Q : Path → Type 0) (q : Path) (v w : Value) → HasKeyHeaders P → HasKeyHeaders Q → Reads Counter P q v → Reads Counter Q q w → Reads Counter (Both P Q) q (join v w)
union_counter P Q q (Counter a) (Counter b) h g r s = (
  Rises-merged atom_cmp atoms_total atoms_anti max a b r.0 s.0,
  λ w. (
    λ i. elim ((m.keys w).0 i) [ inl j ↦ inl ((r.1 w).0 j) | inr j ↦ inr ((s.1 w).0 j) ],
    λ k. (m.keys w).1 (elim k [ inl i ↦ inl ((r.1 w).1 i) | inr i ↦ inr ((s.1 w).1 i) ]),
  ),
  EachPair-merged atom_cmp atoms_total atoms_anti max
      (λ w n. IsGreatest P (key_path q w) n) (λ w n. IsGreatest Q (key_path q w) n) (λ w n. IsGreatest (Both P Q) (key_path q w) n) a b r.0 s.0
      (λ w n o i j f e. IsGreatest-union P Q (key_path q w) n o f e)
      (λ w n i no f. IsGreatest-alike P (Both P Q) (key_path q w) (same_first (key_path q w) P Q (none_below Q q w g (λ k. no ((s.1 w).1 k)))) n f)
      (λ w n no j f. IsGreatest-alike Q (Both P Q) (key_path q w) (same_second (key_path q w) P Q (none_below P q w h (λ k. no ((r.1 w).1 k)))) n f)
      r.2 s.2,
)
  where
    m : IsUnion max a b (merge_with atom_cmp max a b)
    m = keys-merged atom_cmp atoms_total atoms_anti max a b r.0 s.0
union_counter P Q q (Counter a) w h g r s = absurd s
union_counter P Q q v w h g r s = absurd r

-- the path of a map's value
abbrev spelled_path : ScalarKind → Path → ScalarValue → Path
spelled_path kind q key = key_path q (spelling kind key)

union_map : (kind : ScalarKind) (shape : Shape) (P Q : Path → Type 0) (q : Path) (v w : Value) → HasKeyHeaders P → HasKeyHeaders Q
    → ((key : List ℕ) (v w : Value) → Reads shape P (key_path q key) v → Reads shape Q (key_path q key) w → Reads shape (Both P Q) (key_path q key) (join v w))
    → Reads (Map kind shape) P q v → Reads (Map kind shape) Q q w → Reads (Map kind shape) (Both P Q) q (join v w)
union_map kind shape P Q q (Map a) (Map b) h g below r s =
    subst (λ es. Rises scalar_cmp (keys_of es) × ((key : ScalarValue) → IsIn key (keys_of es) ↔ HasKey kind (Both P Q) q key) × EachPair (λ key v. Reads shape (Both P Q) (key_path q (spelling kind key)) v) es)
    (sym (pairs-join a b)) (
      Rises-merged scalar_cmp scalar_total scalar_exact join (pairs a) (pairs b) r.0 s.0,
      λ k. (
        λ i. elim ((m.keys k).0 i) [ inl j ↦ let t = (r.1 k).0 j in (t.0, inl t.1) | inr j ↦ let t = (s.1 k).0 j in (t.0, inr t.1) ],
        λ t. (m.keys k).1 (elim t.1 [ inl i ↦ inl ((r.1 k).1 (t.0, i)) | inr i ↦ inr ((s.1 k).1 (t.0, i)) ]),
      ),
      EachPair-merged scalar_cmp scalar_total scalar_exact join
          (λ k v. Reads shape P (spelled_path kind q k) v) (λ k v. Reads shape Q (spelled_path kind q k) v) (λ k v. Reads shape (Both P Q) (spelled_path kind q k) v) (pairs a) (pairs b) r.0 s.0
          (λ k v w i j f e. below (spelling kind k) v w f e)
          (λ k v i no f. Reads-alike shape P (Both P Q) (spelled_path kind q k) v (same_first (spelled_path kind q k) P Q (none_below Q q (spelling kind k) g (λ t. no ((s.1 k).1 (((r.1 k).0 i).0, t))))) f)
          (λ k v no j f. Reads-alike shape Q (Both P Q) (spelled_path kind q k) v (same_second (spelled_path kind q k) P Q (none_below P q (spelling kind k) h (λ t. no ((r.1 k).1 (((s.1 k).0 j).0, t))))) f)
          r.2 s.2,
    )
  where
    m : IsUnion join (pairs a) (pairs b) (merge_with scalar_cmp join (pairs a) (pairs b))
    m = keys-merged scalar_cmp scalar_total scalar_exact join (pairs a) (pairs b) r.0 s.0
union_map kind shape P Q q (Map a) w h g below r s = absurd s
union_map kind shape P Q q v w h g below r s = absurd r

mutual
  -- The union of two sets of paths says the join of what each says.
  pub Reads-union : (shape : Shape) (P Q : Path → Type 0) (q : Path) (v w : Value) → HasKeyHeaders P → HasKeyHeaders Q
      → Reads shape P q v → Reads shape Q q w → Reads shape (Both P Q) q (join v w)
  Reads-union Taint P Q q v w h g r s = union_taint P Q q v w r s
  Reads-union (Scalar pick kind) P Q q v w h g r s = union_scalar pick kind P Q q v w r s
  Reads-union (Set kind) P Q q v w h g r s = union_set kind P Q q v w r s
  Reads-union Counter P Q q v w h g r s = union_counter P Q q v w h g r s
  Reads-union (Map kind shape) P Q q v w h g r s = union_map kind shape P Q q v w h g (λ key x y t u. Reads-union shape P Q (key_path q key) x y h g t u) r s
  Reads-union (Bag nodes) P Q q (Bag vs) (Bag ws) h g r s = ReadsEach-union nodes P Q q vs ws h g r s
  Reads-union (Bag nodes) P Q q (Bag vs) w h g r s = absurd s
  Reads-union (Bag nodes) P Q q v w h g r s = absurd r

  pub ReadsEach-union : (nodes : Nodes) (P Q : Path → Type 0) (q : Path) (vs ws : Values) → HasKeyHeaders P → HasKeyHeaders Q
      → ReadsEach nodes P q vs → ReadsEach nodes Q q ws → ReadsEach nodes (Both P Q) q (join_values vs ws)
  ReadsEach-union no_node P Q q no_value no_value h g r s = tt
  ReadsEach-union no_node P Q q no_value (value w ws) h g r s = absurd s
  ReadsEach-union no_node P Q q (value v vs) ws h g r s = absurd r
  ReadsEach-union (node name number shape nodes) P Q q (value v vs) (value w ws) h g r s =
      (Reads-union shape P Q (node_path q number) v w h g r.0 s.0, ReadsEach-union nodes P Q q vs ws h g r.1 s.1)
  ReadsEach-union (node name number shape nodes) P Q q (value v vs) no_value h g r s = absurd s
  ReadsEach-union (node name number shape nodes) P Q q no_value ws h g r s = absurd r
