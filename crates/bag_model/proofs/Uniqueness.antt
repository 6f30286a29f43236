-- A set of paths says at most one value.
use Rattle.std.proofs.Common.{◌≡◌, inl, inr, ℕ, ◌≤◌, Bool, true, false, IsTrue, List, Option, Some, None, Ordering, Less, Equal, Greater, refl, sym, ap, ◌∙◌, arith}
use Rattle.std.specs.Cmp.{IsTotalOrder}
use Rattle.std.specs.Ordering.{ordering_reverse}
use Rattle.std.specs.FinMap.{IsAntisymmetric}
use Rattle.context_model.specs.Orders.{Path, atom_cmp}
use Rattle.context_model.specs.KeyedMerge.{keys_of}
use Rattle.context_model.proofs.OrderLaws.{atoms_total}
use Rattle.context_model.proofs.GreedyElements.{Rises-unique}
use Rattle.bag_model.specs.declared.Pick.{Pick}
use Rattle.bag_model.specs.Scalars.{ScalarKind, ScalarValue, scalar_cmp, spelling, pick_cmp}
use Rattle.bag_model.specs.Shapes.{Shape, Nodes, Taint, Scalar, Set, Counter, Map, Bag, no_node, node}
use Rattle.bag_model.specs.Values.{Value, Values, Taint, Scalar, Set, Counter, Map, Bag, no_value, value, pairs}
use Rattle.bag_model.specs.Readings.{key_path, node_path, IsFirst, IsGreatest, Reads, ReadsEach}
use Rattle.bag_model.proofs.ScalarOrder.{scalar_total, pick_total, pick_exact}
use Rattle.bag_model.proofs.PairLaws.{pairs_one, pairs-injective}

module _ (R : ScalarValue → ScalarValue → Ordering) (total : IsTotalOrder R) (anti : IsAntisymmetric R) (kind : ScalarKind) (P : Path → Type 0) (q : Path) where
  -- At most one value is the first.
  pub IsFirst-unique : (a b : Option ScalarValue) → IsFirst R kind P q a → IsFirst R kind P q b → a ≡ b
  IsFirst-unique None None f g = refl
  IsFirst-unique None (Some w) f g = absurd (f w g.0)
  IsFirst-unique (Some v) None f g = absurd (g v f.0)
  IsFirst-unique (Some v) (Some w) f g = by (R v w) refl
    where
      by : (r : Ordering) → R v w ≡ r → Some v ≡ Some w
      by Less e = absurd (g.1 v f.0 e)
      by Equal e = ap Some (anti v w e)
      by Greater e = absurd (f.1 w g.0 (total.antisymm w v ∙ ap ordering_reverse e))

pub IsGreatest-unique : (P : Path → Type 0) (q : Path) (m n : ℕ) → IsGreatest P q m → IsGreatest P q n → m ≡ n
IsGreatest-unique P q m n f g =
    let less : m ≤ n = elim f.0 [ inl h ↦ g.1 m h | inr e ↦ omega arith ] in
    let more : n ≤ m = elim g.0 [ inl h ↦ f.1 n h | inr e ↦ omega arith ] in
    omega arith

one_taint : (P : Path → Type 0) (q : Path) (v w : Value) → Reads Taint P q v → Reads Taint P q w → v ≡ w
one_taint P q (Taint a) (Taint b) r s = ap Taint (by a b (λ t. s.1 (r.0 t)) (λ t. r.1 (s.0 t)))
  where
    by : (a b : Bool) → (IsTrue a → IsTrue b) → (IsTrue b → IsTrue a) → a ≡ b
    by true true f g = refl
    by true false f g = absurd (cc (f refl))
    by false true f g = absurd (cc (g refl))
    by false false f g = refl
one_taint P q (Taint a) w r s = absurd s
one_taint P q v w r s = absurd r

one_scalar : (pick : Pick) (kind : ScalarKind) (P : Path → Type 0) (q : Path) (v w : Value) → Reads (Scalar pick kind) P q v → Reads (Scalar pick kind) P q w → v ≡ w
one_scalar pick kind P q (Scalar k a) (Scalar l b) r s =
    let picks : k ≡ l = r.0 ∙ sym s.0 in
    let items : a ≡ b = IsFirst-unique (pick_cmp pick) (pick_total pick) (pick_exact pick) kind P q a b r.1 s.1 in
    λ i. Scalar (picks i) (items i)
one_scalar pick kind P q (Scalar k a) w r s = absurd s
one_scalar pick kind P q v w r s = absurd r

one_set : (kind : ScalarKind) (P : Path → Type 0) (q : Path) (v w : Value) → Reads (Set kind) P q v → Reads (Set kind) P q w → v ≡ w
one_set kind P q (Set k a) (Set l b) r s =
    let kinds : k ≡ l = r.0 ∙ sym s.0 in
    let items : a ≡ b = Rises-unique scalar_cmp scalar_total a b r.1 s.1 (λ v. ((λ i. (s.2 v).1 ((r.2 v).0 i)), λ i. (r.2 v).1 ((s.2 v).0 i))) in
    λ i. Set (kinds i) (items i)
one_set kind P q (Set k a) w r s = absurd s
one_set kind P q v w r s = absurd r

one_counter : (P : Path → Type 0) (q : Path) (v w : Value) → Reads Counter P q v → Reads Counter P q w → v ≡ w
one_counter P q (Counter a) (Counter b) r s =
    let keys : keys_of a ≡ keys_of b = Rises-unique atom_cmp atoms_total (keys_of a) (keys_of b) r.0 s.0 (λ w. ((λ i. (s.1 w).1 ((r.1 w).0 i)), λ i. (r.1 w).1 ((s.1 w).0 i))) in
    ap Counter (pairs_one (λ w n. IsGreatest P (key_path q w) n) (λ w n. IsGreatest P (key_path q w) n) (λ w m n f g. IsGreatest-unique P (key_path q w) m n f g) a b keys r.2 s.2)
one_counter P q (Counter a) w r s = absurd s
one_counter P q v w r s = absurd r

one_map : (kind : ScalarKind) (shape : Shape) (P : Path → Type 0) (q : Path) (v w : Value)
    → ((key : List ℕ) (v w : Value) → Reads shape P (key_path q key) v → Reads shape P (key_path q key) w → v ≡ w)
    → Reads (Map kind shape) P q v → Reads (Map kind shape) P q w → v ≡ w
one_map kind shape P q (Map a) (Map b) below r s =
    let keys : keys_of (pairs a) ≡ keys_of (pairs b) = Rises-unique scalar_cmp scalar_total (keys_of (pairs a)) (keys_of (pairs b)) r.0 s.0 (λ k. ((λ i. (s.1 k).1 ((r.1 k).0 i)), λ i. (r.1 k).1 ((s.1 k).0 i))) in
    ap Map (pairs-injective a b (pairs_one (λ k v. Reads shape P (key_path q (spelling kind k)) v) (λ k v. Reads shape P (key_path q (spelling kind k)) v) (λ k v w f g. below (spelling kind k) v w f g) (pairs a) (pairs b) keys r.2 s.2))
one_map kind shape P q (Map a) w below r s = absurd s
one_map kind shape P q v w below r s = absurd r

mutual
  pub Reads-unique : (shape : Shape) (P : Path → Type 0) (q : Path) (v w : Value) → Reads shape P q v → Reads shape P q w → v ≡ w
  Reads-unique Taint P q v w r s = one_taint P q v w r s
  Reads-unique (Scalar pick kind) P q v w r s = one_scalar pick kind P q v w r s
  Reads-unique (Set kind) P q v w r s = one_set kind P q v w r s
  Reads-unique Counter P q v w r s = one_counter P q v w r s
  Reads-unique (Map kind shape) P q v w r s = one_map kind shape P q v w (λ key x y t u. Reads-unique shape P (key_path q key) x y t u) r s
  Reads-unique (Bag nodes) P q (Bag vs) (Bag ws) r s = ap Bag (ReadsEach-unique nodes P q vs ws r s)
  Reads-unique (Bag nodes) P q (Bag vs) w r s = absurd s
  Reads-unique (Bag nodes) P q v w r s = absurd r

  pub ReadsEach-unique : (nodes : Nodes) (P : Path → Type 0) (q : Path) (vs ws : Values) → ReadsEach nodes P q vs → ReadsEach nodes P q ws → vs ≡ ws
  ReadsEach-unique no_node P q no_value no_value r s = refl
  ReadsEach-unique no_node P q no_value (value w ws) r s = absurd s
  ReadsEach-unique no_node P q (value v vs) ws r s = absurd r
  ReadsEach-unique (node name number shape nodes) P q (value v vs) (value w ws) r s =
      let one : v ≡ w = Reads-unique shape P (node_path q number) v w r.0 s.0 in
      let rest : vs ≡ ws = ReadsEach-unique nodes P q vs ws r.1 s.1 in
      λ i. value (one i) (rest i)
  ReadsEach-unique (node name number shape nodes) P q (value v vs) no_value r s = absurd s
  ReadsEach-unique (node name number shape nodes) P q no_value ws r s = absurd r
