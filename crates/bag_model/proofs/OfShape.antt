-- Values of one shape: they are alike and proper, their join is of the shape, and so is what is read.
use Rattle.std.proofs.Common.{◌≡◌, inl, inr, ℕ, ◌^◌, ◌<◌, max, [], ◌∷◌, ◌++◌, append_assoc, Option, Some, None, Less, Equal, Greater, refl, sym, ap, ◌∙◌, subst, arith, Ordering}
use Rattle.std.specs.List.{AllByRecursion}
use Rattle.context_model.specs.Orders.{Path, atom_cmp, Rises, by_order}
use Rattle.context_model.specs.GreedyMerge.{first_of}
use Rattle.context_model.specs.KeyedMerge.{keys_of, EachPair}
use Rattle.context_model.proofs.OrderLaws.{atoms_total, atoms_anti}
use Rattle.context_model.proofs.GreedyElements.{All-from, All-greedy}
use Rattle.context_model.proofs.Rising.{Rises-greedy}
use Rattle.context_model.proofs.MergeLaws.{EachPair-at, EachPair-from, IsIn-keys_of}
use Rattle.bag_model.specs.declared.Pick.{Pick}
use Rattle.bag_model.specs.Scalars.{ScalarKind, ScalarValue, scalar_cmp, IsScalarOf, spelling, pick_cmp}
use Rattle.bag_model.specs.Shapes.{Shape, Nodes, Taint, Scalar, Set, Counter, Map, Bag, no_node, node}
use Rattle.bag_model.specs.Values.{Value, Values, Taint, Scalar, Set, Counter, Map, Bag, no_value, value, pairs, bottom, bottoms, IsOfShape, AreOfShapes}
use Rattle.bag_model.specs.Joins.{join, join_values, IsBottom, AreBottom, Alike, AreAlike, Proper, AreProper}
use Rattle.bag_model.specs.Readings.{key_path, node_path, IsFirst, IsGreatest, Reads, ReadsEach}
use Rattle.bag_model.proofs.ScalarOrder.{scalar_total, scalar_exact}
use Rattle.bag_model.proofs.PairLaws.{Rises-merged, EachPair-merged, pairs-join}
use Rattle.bag_model.proofs.JoinLaws.{AlikeEntries-from, AreProperEntries-from, joined_counts}

-- what holds of a map's keys and values of a shape
abbrev pub IsEntryOf : ScalarKind → Shape → ScalarValue → Value → Type 0
IsEntryOf kind shape key v = IsScalarOf kind key × IsOfShape shape v

-- a scalar of a shape keeps the value that the shape says
of_pick : (pick : Pick) (kind : ScalarKind) (own : Pick) (o : Option ScalarValue) → IsOfShape (Scalar pick kind) (Scalar own o) → own ≡ pick
of_pick pick kind own None p = p
of_pick pick kind own (Some v) p = p.0

of_own : (pick : Pick) (kind : ScalarKind) (own other : Pick) (o : Option ScalarValue) → own ≡ pick → IsOfShape (Scalar pick kind) (Scalar other o) → IsOfShape (Scalar pick kind) (Scalar own o)
of_own pick kind own other None e p = e
of_own pick kind own other (Some v) e p = (e, p.1)

mutual
  -- Two values of one shape are alike.
  pub Alike-shape : (shape : Shape) (x y : Value) → IsOfShape shape x → IsOfShape shape y → Alike x y
  Alike-shape Taint (Taint a) (Taint b) p q = tt
  Alike-shape Taint (Taint a) y p q = absurd q
  Alike-shape Taint x y p q = absurd p
  Alike-shape (Scalar pick kind) (Scalar k a) (Scalar l b) p q = of_pick pick kind k a p ∙ sym (of_pick pick kind l b q)
  Alike-shape (Scalar pick kind) (Scalar k a) y p q = absurd q
  Alike-shape (Scalar pick kind) x y p q = absurd p
  Alike-shape (Set kind) (Set k a) (Set l b) p q = p.0 ∙ sym q.0
  Alike-shape (Set kind) (Set k a) y p q = absurd q
  Alike-shape (Set kind) x y p q = absurd p
  Alike-shape Counter (Counter a) (Counter b) p q = tt
  Alike-shape Counter (Counter a) y p q = absurd q
  Alike-shape Counter x y p q = absurd p
  Alike-shape (Map kind shape) (Map a) (Map b) p q =
      AlikeEntries-from a b (λ k v w s t. Alike-shape shape v w (EachPair-at (IsEntryOf kind shape) (pairs a) k v p.1 s).1 (EachPair-at (IsEntryOf kind shape) (pairs b) k w q.1 t).1)
  Alike-shape (Map kind shape) (Map a) y p q = absurd q
  Alike-shape (Map kind shape) x y p q = absurd p
  Alike-shape (Bag nodes) (Bag a) (Bag b) p q = AreAlike-shapes nodes a b p q
  Alike-shape (Bag nodes) (Bag a) y p q = absurd q
  Alike-shape (Bag nodes) x y p q = absurd p

  pub AreAlike-shapes : (nodes : Nodes) (vs ws : Values) → AreOfShapes nodes vs → AreOfShapes nodes ws → AreAlike vs ws
  AreAlike-shapes no_node no_value no_value p q = tt
  AreAlike-shapes no_node no_value (value w ws) p q = absurd q
  AreAlike-shapes no_node (value v vs) ws p q = absurd p
  AreAlike-shapes (node name number shape nodes) (value v vs) (value w ws) p q = (Alike-shape shape v w p.0 q.0, AreAlike-shapes nodes vs ws p.1 q.1)
  AreAlike-shapes (node name number shape nodes) (value v vs) no_value p q = absurd q
  AreAlike-shapes (node name number shape nodes) no_value ws p q = absurd p

mutual
  -- A value of a shape is proper.
  pub Proper-shape : (shape : Shape) (x : Value) → IsOfShape shape x → Proper x
  Proper-shape Taint (Taint a) p = tt
  Proper-shape Taint x p = absurd p
  Proper-shape (Scalar pick kind) (Scalar k a) p = tt
  Proper-shape (Scalar pick kind) x p = absurd p
  Proper-shape (Set kind) (Set k a) p = (p.1, subst (λ l. AllByRecursion (IsScalarOf l) a) (sym p.0) p.2)
  Proper-shape (Set kind) x p = absurd p
  Proper-shape Counter (Counter a) p = p
  Proper-shape Counter x p = absurd p
  Proper-shape (Map kind shape) (Map a) p = (p.0, AreProperEntries-from a (λ k v at. Proper-shape shape v (EachPair-at (IsEntryOf kind shape) (pairs a) k v p.1 at).1))
  Proper-shape (Map kind shape) x p = absurd p
  Proper-shape (Bag nodes) (Bag a) p = AreProper-shapes nodes a p
  Proper-shape (Bag nodes) x p = absurd p

  pub AreProper-shapes : (nodes : Nodes) (vs : Values) → AreOfShapes nodes vs → AreProper vs
  AreProper-shapes no_node no_value p = tt
  AreProper-shapes no_node (value v vs) p = absurd p
  AreProper-shapes (node name number shape nodes) (value v vs) p = (Proper-shape shape v p.0, AreProper-shapes nodes vs p.1)
  AreProper-shapes (node name number shape nodes) no_value p = absurd p

-- the first of two scalars of a kind
first_kind : (R : ScalarValue → ScalarValue → Ordering) (pick own : Pick) (kind : ScalarKind) (a b : Option ScalarValue) → IsOfShape (Scalar pick kind) (Scalar own a) → IsOfShape (Scalar pick kind) (Scalar own b)
    → IsOfShape (Scalar pick kind) (Scalar own (first_of R a b))
first_kind R pick own kind None b p q = q
first_kind R pick own kind (Some v) None p q = p
first_kind R pick own kind (Some v) (Some w) p q = elim (R v w) as (λ r. IsOfShape (Scalar pick kind) (Scalar own (by_order r (Some v) (Some v) (Some w)))) [ Less ↦ p | Equal ↦ p | Greater ↦ q ]

mutual
  -- The join of two values of a shape is of the shape.
  pub IsOfShape-join : (shape : Shape) (x y : Value) → IsOfShape shape x → IsOfShape shape y → IsOfShape shape (join x y)
  IsOfShape-join Taint (Taint a) (Taint b) p q = tt
  IsOfShape-join Taint (Taint a) y p q = absurd q
  IsOfShape-join Taint x y p q = absurd p
  IsOfShape-join (Scalar pick kind) (Scalar k a) (Scalar l b) p q =
      first_kind (pick_cmp k) pick k kind a b p (of_own pick kind k l b (of_pick pick kind k a p) q)
  IsOfShape-join (Scalar pick kind) (Scalar k a) y p q = absurd q
  IsOfShape-join (Scalar pick kind) x y p q = absurd p
  IsOfShape-join (Set kind) (Set k a) (Set l b) p q =
      (p.0, Rises-greedy scalar_cmp scalar_total a b p.1 q.1, All-greedy scalar_cmp scalar_total scalar_exact (IsScalarOf kind) a b p.2 q.2)
  IsOfShape-join (Set kind) (Set k a) y p q = absurd q
  IsOfShape-join (Set kind) x y p q = absurd p
  IsOfShape-join Counter (Counter a) (Counter b) p q = (Rises-merged atom_cmp atoms_total atoms_anti max a b p.0 q.0, joined_counts a b p.0 q.0 p.1 q.1)
  IsOfShape-join Counter (Counter a) y p q = absurd q
  IsOfShape-join Counter x y p q = absurd p
  IsOfShape-join (Map kind shape) (Map a) (Map b) p q =
      subst (λ l. Rises scalar_cmp (keys_of l) × EachPair (IsEntryOf kind shape) l) (sym (pairs-join a b)) (
        Rises-merged scalar_cmp scalar_total scalar_exact join (pairs a) (pairs b) p.0 q.0,
        EachPair-merged scalar_cmp scalar_total scalar_exact join (IsEntryOf kind shape) (IsEntryOf kind shape) (IsEntryOf kind shape) (pairs a) (pairs b) p.0 q.0
            (λ k v w i j f g. (f.0, IsOfShape-join shape v w f.1 g.1)) (λ k v i no f. f) (λ k w no j g. g) p.1 q.1,
      )
  IsOfShape-join (Map kind shape) (Map a) y p q = absurd q
  IsOfShape-join (Map kind shape) x y p q = absurd p
  IsOfShape-join (Bag nodes) (Bag a) (Bag b) p q = AreOfShapes-join nodes a b p q
  IsOfShape-join (Bag nodes) (Bag a) y p q = absurd q
  IsOfShape-join (Bag nodes) x y p q = absurd p

  pub AreOfShapes-join : (nodes : Nodes) (vs ws : Values) → AreOfShapes nodes vs → AreOfShapes nodes ws → AreOfShapes nodes (join_values vs ws)
  AreOfShapes-join no_node no_value no_value p q = tt
  AreOfShapes-join no_node no_value (value w ws) p q = absurd q
  AreOfShapes-join no_node (value v vs) ws p q = absurd p
  AreOfShapes-join (node name number shape nodes) (value v vs) (value w ws) p q = (IsOfShape-join shape v w p.0 q.0, AreOfShapes-join nodes vs ws p.1 q.1)
  AreOfShapes-join (node name number shape nodes) (value v vs) no_value p q = absurd q
  AreOfShapes-join (node name number shape nodes) no_value ws p q = absurd p

mutual
  -- Bottom is of its shape.
  pub IsOfShape-bottom : (shape : Shape) → IsOfShape shape (bottom shape)
  IsOfShape-bottom Taint = tt
  IsOfShape-bottom (Scalar pick kind) = refl
  IsOfShape-bottom (Set kind) = (refl, tt, tt)
  IsOfShape-bottom Counter = (tt, tt)
  IsOfShape-bottom (Map kind shape) = (tt, tt)
  IsOfShape-bottom (Bag nodes) = AreOfShapes-bottom nodes

  pub AreOfShapes-bottom : (nodes : Nodes) → AreOfShapes nodes (bottoms nodes)
  AreOfShapes-bottom no_node = tt
  AreOfShapes-bottom (node name number shape nodes) = (IsOfShape-bottom shape, AreOfShapes-bottom nodes)

mutual
  -- It says nothing.
  pub IsBottom-bottom : (shape : Shape) → IsBottom (bottom shape)
  IsBottom-bottom Taint = refl
  IsBottom-bottom (Scalar pick kind) = refl
  IsBottom-bottom (Set kind) = refl
  IsBottom-bottom Counter = refl
  IsBottom-bottom (Map kind shape) = refl
  IsBottom-bottom (Bag nodes) = AreBottom-bottoms nodes

  pub AreBottom-bottoms : (nodes : Nodes) → AreBottom (bottoms nodes)
  AreBottom-bottoms no_node = tt
  AreBottom-bottoms (node name number shape nodes) = (IsBottom-bottom shape, AreBottom-bottoms nodes)

mutual
  -- It is the one value of its shape that says nothing.
  pub bottom-one : (shape : Shape) (x : Value) → IsOfShape shape x → IsBottom x → x ≡ bottom shape
  bottom-one Taint (Taint a) p e = ap Taint e
  bottom-one Taint x p e = absurd p
  bottom-one (Scalar pick kind) (Scalar k a) p e = let f = of_pick pick kind k a p in λ i. Scalar (f i) (e i)
  bottom-one (Scalar pick kind) x p e = absurd p
  bottom-one (Set kind) (Set k a) p e = λ i. Set (p.0 i) (e i)
  bottom-one (Set kind) x p e = absurd p
  bottom-one Counter (Counter a) p e = ap Counter e
  bottom-one Counter x p e = absurd p
  bottom-one (Map kind shape) (Map a) p e = ap Map e
  bottom-one (Map kind shape) x p e = absurd p
  bottom-one (Bag nodes) (Bag a) p e = ap Bag (bottoms-one nodes a p e)
  bottom-one (Bag nodes) x p e = absurd p

  pub bottoms-one : (nodes : Nodes) (vs : Values) → AreOfShapes nodes vs → AreBottom vs → vs ≡ bottoms nodes
  bottoms-one no_node no_value p e = refl
  bottoms-one no_node (value v vs) p e = absurd p
  bottoms-one (node name number shape nodes) (value v vs) p e = let f = bottom-one shape v p.0 e.0 in let g = bottoms-one nodes vs p.1 e.1 in λ i. value (f i) (g i)
  bottoms-one (node name number shape nodes) no_value p e = absurd p

-- ---- what is read is of the shape

read_count : (P : Path → Type 0) (q : Path) (n : ℕ) → IsGreatest P q n → n < 2 ^ 64
read_count P q n g = elim g.0 [ inl h ↦ h.0 | inr e ↦ omega arith ]

read_scalar : (pick own : Pick) (kind : ScalarKind) (P : Path → Type 0) (q : Path) (o : Option ScalarValue) → own ≡ pick → IsFirst (pick_cmp pick) kind P q o → IsOfShape (Scalar pick kind) (Scalar own o)
read_scalar pick own kind P q None e f = e
read_scalar pick own kind P q (Some v) e f = (e, f.0.0)

mutual
  pub Reads-shape : (shape : Shape) (P : Path → Type 0) (q : Path) (v : Value) → Reads shape P q v → IsOfShape shape v
  Reads-shape Taint P q (Taint a) r = tt
  Reads-shape Taint P q v r = absurd r
  Reads-shape (Scalar pick kind) P q (Scalar own o) r = read_scalar pick own kind P q o r.0 r.1
  Reads-shape (Scalar pick kind) P q v r = absurd r
  Reads-shape (Set kind) P q (Set k a) r = (r.0, r.1, All-from (IsScalarOf kind) a (λ v i. ((r.2 v).0 i).0))
  Reads-shape (Set kind) P q v r = absurd r
  Reads-shape Counter P q (Counter a) r =
      (r.0, EachPair-from (λ w n. n < 2 ^ 64) a (λ w n at. read_count P (key_path q w) n (EachPair-at (λ w n. IsGreatest P (key_path q w) n) a w n r.2 at)))
  Reads-shape Counter P q v r = absurd r
  Reads-shape (Map kind shape) P q (Map a) r = (
    r.0,
    EachPair-from (IsEntryOf kind shape) (pairs a)
        (λ k v at. (((r.1 k).0 (IsIn-keys_of (pairs a) k v at)).0, Reads-shape shape P (key_path q (spelling kind k)) v (EachPair-at (λ k v. Reads shape P (key_path q (spelling kind k)) v) (pairs a) k v r.2 at))),
  )
  Reads-shape (Map kind shape) P q v r = absurd r
  Reads-shape (Bag nodes) P q (Bag a) r = ReadsEach-shapes nodes P q a r
  Reads-shape (Bag nodes) P q v r = absurd r

  pub ReadsEach-shapes : (nodes : Nodes) (P : Path → Type 0) (q : Path) (vs : Values) → ReadsEach nodes P q vs → AreOfShapes nodes vs
  ReadsEach-shapes no_node P q no_value r = tt
  ReadsEach-shapes no_node P q (value v vs) r = absurd r
  ReadsEach-shapes (node name number shape nodes) P q (value v vs) r = (Reads-shape shape P (node_path q number) v r.0, ReadsEach-shapes nodes P q vs r.1)
  ReadsEach-shapes (node name number shape nodes) P q no_value r = absurd r

mutual
  -- Where there is nothing below a path bottom is read.
  pub Reads-none : (shape : Shape) (P : Path → Type 0) (q : Path) → ((r : Path) → P (q ++ r) → ⊥) → Reads shape P q (bottom shape)
  Reads-none Taint P q none = ((λ t. absurd (cc t)), λ d. absurd (none (_ ∷ []) d.1))
  Reads-none (Scalar pick kind) P q none = (refl, λ w h. none (_ ∷ []) h.1)
  Reads-none (Set kind) P q none = (refl, tt, λ v. ((λ i. absurd i), λ h. none (_ ∷ []) h.1))
  Reads-none Counter P q none = (tt, (λ w. ((λ i. absurd i), λ h. none (_ ∷ []) h)), tt)
  Reads-none (Map kind shape) P q none = (tt, (λ k. ((λ i. absurd i), λ h. none (_ ∷ []) h.1)), tt)
  Reads-none (Bag nodes) P q none = ReadsEach-none nodes P q none

  pub ReadsEach-none : (nodes : Nodes) (P : Path → Type 0) (q : Path) → ((r : Path) → P (q ++ r) → ⊥) → ReadsEach nodes P q (bottoms nodes)
  ReadsEach-none no_node P q none = tt
  ReadsEach-none (node name number shape nodes) P q none =
      (Reads-none shape P (node_path q number) (λ r i. none (_ ∷ r) (subst P (append_assoc q (_ ∷ []) r) i)), ReadsEach-none nodes P q none)
