-- What the table doesn't name: an encoding has nothing of it, and it is never read.
use Rattle.std.proofs.Common.{inl, inr, ◌↔◌, ℕ, List, [], Option, Some, None, refl, Ordering}
use Rattle.context_model.specs.Atoms.{Atom}
use Rattle.context_model.specs.Orders.{Path}
use Rattle.context_model.specs.Varints.{unsigned_varint}
use Rattle.context_model.proofs.MergeLaws.{EachPair-at, EachPair-from}
use Rattle.bag_model.specs.Scalars.{ScalarKind, ScalarValue, spelling, pick_cmp}
use Rattle.bag_model.specs.Shapes.{Shape, Nodes, Taint, Scalar, Set, Counter, Map, Bag, no_node, node}
use Rattle.bag_model.specs.Values.{Value, Values, Taint, Scalar, Set, Counter, Map, Bag, no_value, value, pairs}
use Rattle.bag_model.specs.Readings.{datum_path, key_path, node_path, HasScalar, IsFirst, IsGreatest, Reads, ReadsEach, PathsOf, SaysValues}
use Rattle.bag_model.specs.Encodings.{InLayout, InLayouts, IsEncoding, IsUsed, AreUsed, IsForeign}

-- ---- an encoding has no foreign path

mutual
  pub InLayout-used : (shape : Shape) (q : Path) (v : Value) (p : Path) → InLayout shape q v p → IsUsed shape q p
  InLayout-used Taint q (Taint on) p l = ([], l.1)
  InLayout-used Taint q v p l = absurd l
  InLayout-used (Scalar pick kind) q (Scalar own (Some v)) p l = (spelling kind v, l)
  InLayout-used (Scalar pick kind) q v p l = absurd l
  InLayout-used (Set kind) q (Set own vs) p l = (spelling kind l.0, l.2)
  InLayout-used (Set kind) q v p l = absurd l
  InLayout-used Counter q (Counter counts) p l = (l.0, elim l.3 [ inl e ↦ inl e | inr e ↦ inr (unsigned_varint l.1, e) ])
  InLayout-used Counter q v p l = absurd l
  InLayout-used (Map kind shape) q (Map es) p l =
      (spelling kind l.0, elim l.3 [ inl e ↦ inl e | inr d ↦ inr (InLayout-used shape (key_path q (spelling kind l.0)) l.1 p d) ])
  InLayout-used (Map kind shape) q v p l = absurd l
  InLayout-used (Bag nodes) q (Bag vs) p l = InLayouts-used nodes q vs p l
  InLayout-used (Bag nodes) q v p l = absurd l

  pub InLayouts-used : (nodes : Nodes) (q : Path) (vs : Values) (p : Path) → InLayouts nodes q vs p → AreUsed nodes q p
  InLayouts-used no_node q vs p l = absurd l
  InLayouts-used (node name number shape nodes) q no_value p l = absurd l
  InLayouts-used (node name number shape nodes) q (value v vs) p (inl l) =
      elim l.1 [ inl e ↦ inl e | inr d ↦ inr (inl (InLayout-used shape (node_path q number) v p d)) ]
  InLayouts-used (node name number shape nodes) q (value v vs) p (inr l) = inr (inr (InLayouts-used nodes q vs p l))

pub encoding_not_foreign : (nodes : Nodes) (vs : Values) (list : List Atom) (p : Path) → IsEncoding nodes vs list → IsForeign nodes list p → ⊥
encoding_not_foreign nodes vs list p e f = f.2 (InLayouts-used nodes [] vs p ((e.exact p).0 f.0))

-- ---- and what is foreign is never read

-- Two sets have the same of these paths.
abbrev pub SameOf : (Path → Type 0) → (Path → Type 0) → (Path → Type 0) → Type 0
SameOf U P Q = (p : Path) → U p → P p ↔ Q p

scalar_same : (kind : ScalarKind) (P Q : Path → Type 0) (q : Path) → ((x : List ℕ) → P (datum_path q x) ↔ Q (datum_path q x)) → (v : ScalarValue) → HasScalar kind P q v ↔ HasScalar kind Q q v
scalar_same kind P Q q s v = ((λ h. (h.0, (s (spelling kind v)).0 h.1)), λ h. (h.0, (s (spelling kind v)).1 h.1))

first_same : (R : ScalarValue → ScalarValue → Ordering) (kind : ScalarKind) (P Q : Path → Type 0) (q : Path) → ((x : List ℕ) → P (datum_path q x) ↔ Q (datum_path q x)) → (o : Option ScalarValue) → IsFirst R kind P q o → IsFirst R kind Q q o
first_same R kind P Q q s None f = λ w h. f w ((scalar_same kind P Q q s w).1 h)
first_same R kind P Q q s (Some v) f = ((scalar_same kind P Q q s v).0 f.0, λ w h. f.1 w ((scalar_same kind P Q q s w).1 h))

greatest_same : (P Q : Path → Type 0) (q : Path) → ((x : List ℕ) → P (datum_path q x) ↔ Q (datum_path q x)) → (n : ℕ) → IsGreatest P q n → IsGreatest Q q n
greatest_same P Q q s n g = (elim g.0 [ inl h ↦ inl (h.0, (s (unsigned_varint n)).0 h.1) | inr e ↦ inr e ], λ m h. g.1 m (h.0, (s (unsigned_varint m)).1 h.1))

mutual
  pub Reads-used : (shape : Shape) (P Q : Path → Type 0) (q : Path) (v : Value) → SameOf (IsUsed shape q) P Q → Reads shape P q v → Reads shape Q q v
  Reads-used Taint P Q q (Taint on) s r =
      ((λ t. let d = r.0 t in (d.0, (s (datum_path q d.0) (d.0, refl)).0 d.1)), λ d. r.1 (d.0, (s (datum_path q d.0) (d.0, refl)).1 d.1))
  Reads-used Taint P Q q v s r = absurd r
  Reads-used (Scalar pick kind) P Q q (Scalar own o) s r = (r.0, first_same (pick_cmp pick) kind P Q q (λ x. s (datum_path q x) (x, refl)) o r.1)
  Reads-used (Scalar pick kind) P Q q v s r = absurd r
  Reads-used (Set kind) P Q q (Set own vs) s r = (
    r.0,
    r.1,
    λ v. let h = scalar_same kind P Q q (λ x. s (datum_path q x) (x, refl)) v in ((λ i. h.0 ((r.2 v).0 i)), λ g. (r.2 v).1 (h.1 g)),
  )
  Reads-used (Set kind) P Q q v s r = absurd r
  Reads-used Counter P Q q (Counter counts) s r = (
    r.0,
    λ w. let k = s (key_path q w) (w, inl refl) in ((λ i. k.0 ((r.1 w).0 i)), λ h. (r.1 w).1 (k.1 h)),
    EachPair-from (λ w n. IsGreatest Q (key_path q w) n) counts
        (λ w n at. greatest_same P Q (key_path q w) (λ x. s (datum_path (key_path q w) x) (w, inr (x, refl))) n (EachPair-at (λ w n. IsGreatest P (key_path q w) n) counts w n r.2 at)),
  )
  Reads-used Counter P Q q v s r = absurd r
  Reads-used (Map kind shape) P Q q (Map es) s r = (
    r.0,
    λ k. let t = s (key_path q (spelling kind k)) (spelling kind k, inl refl) in ((λ i. let h = (r.1 k).0 i in (h.0, t.0 h.1)), λ h. (r.1 k).1 (h.0, t.1 h.1)),
    EachPair-from (λ k v. Reads shape Q (key_path q (spelling kind k)) v) (pairs es)
        (λ k v at. Reads-used shape P Q (key_path q (spelling kind k)) v (λ p u. s p (spelling kind k, inr u)) (EachPair-at (λ k v. Reads shape P (key_path q (spelling kind k)) v) (pairs es) k v r.2 at)),
  )
  Reads-used (Map kind shape) P Q q v s r = absurd r
  Reads-used (Bag nodes) P Q q (Bag vs) s r = ReadsEach-used nodes P Q q vs s r
  Reads-used (Bag nodes) P Q q v s r = absurd r

  pub ReadsEach-used : (nodes : Nodes) (P Q : Path → Type 0) (q : Path) (vs : Values) → SameOf (AreUsed nodes q) P Q → ReadsEach nodes P q vs → ReadsEach nodes Q q vs
  ReadsEach-used no_node P Q q no_value s r = tt
  ReadsEach-used no_node P Q q (value v vs) s r = absurd r
  ReadsEach-used (node name number shape nodes) P Q q no_value s r = absurd r
  ReadsEach-used (node name number shape nodes) P Q q (value v vs) s r =
      (Reads-used shape P Q (node_path q number) v (λ p u. s p (inr (inl u))) r.0, ReadsEach-used nodes P Q q vs (λ p u. s p (inr (inr u))) r.1)

-- Lists with the same paths that the table names say the same.
pub foreign_unread : (nodes : Nodes) (a b : List Atom) (vs : Values) → SameOf (AreUsed nodes []) (PathsOf a) (PathsOf b) → SaysValues nodes a vs → SaysValues nodes b vs
foreign_unread nodes a b vs s r = ReadsEach-used nodes (PathsOf a) (PathsOf b) [] vs s r
