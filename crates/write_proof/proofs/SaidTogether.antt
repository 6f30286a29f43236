-- What some values say together is what their join says.
use Rattle.std.proofs.Common.{◌≡◌, ◌⊎◌, inl, inr, ◌↔◌, ℕ, zero, suc, max, true, false, List, [], ◌∷◌, Option, Some, None, refl, sym, ap, ◌∙◌, subst, arith}
use Rattle.std.proofs.lemmas.Bool.{cases_lt}
use Rattle.context_model.specs.KeyedMerge.{keys_of, IsAt}
use Rattle.context_model.specs.GreedyMerge.{first_of}
use Rattle.context_model.specs.Orders.{IsIn, atom_cmp}
use Rattle.context_model.proofs.MergeLaws.{EachPair-at, IsIn-keys_of, IsAt-unique}
use Rattle.context_model.proofs.OrderLaws.{atoms_total}
use Rattle.bag_model.specs.declared.Pick.{Pick}
use Rattle.bag_model.specs.JoinUnions.{IsFirstOfTwo}
use Rattle.bag_model.specs.Joins.{join, join_values, IsValueBelow}
use Rattle.bag_model.specs.Scalars.{ScalarKind, ScalarValue, scalar_cmp, pick_cmp, IsScalarOf}
use Rattle.bag_model.specs.Shapes.{Shape, Nodes, no_node, node}
use Rattle.bag_model.specs.ValueCode.{scalar_code}
use Rattle.bag_model.specs.Values.{Value, Values, Taint, Scalar, Set, Counter, Map, Bag, no_value, value, pairs, bottom, bottoms, IsOfShape, AreOfShapes}
use Rattle.bag_model.proofs.BelowLaws.{below-onwards, below-first, below-second, below-least, below-bottom}
use Rattle.bag_model.proofs.FirstLaws.{first-assoc, first-comm, first-idem}
use Rattle.bag_model.proofs.JoinUnionLaws.{joins_are_unions}
use Rattle.bag_model.proofs.OfShape.{Proper-shape, IsOfShape-join, IsOfShape-bottom}
use Rattle.bag_model.proofs.ScalarOrder.{scalar_total, pick_total, pick_exact}
use Rattle.trace_model.proofs.ContributedLaws.{least_one}
use Rattle.write_proof.specs.Together.{Saying, TaintOn, StaysBeside, HasElement, CountsTo, HasKey, OfKey, OfField, Says, IsSaid, IsSaidBy, IsJoinOfAll}
use Rattle.write_proof.proofs.BelowKinds.{name_code, set_below, counter_below, map_below, bag_below}
use Rattle.write_proof.proofs.Keyed.{key_value, union_at, first_at, second_at}

-- ---- a join says what both values say

either_iff : {A C D : Type 0} → (A → C ⊎ D) → (C → A) → (D → A) → A ↔ (C ⊎ D)
either_iff f g h = (f, λ e. elim e [ inl c ↦ g c | inr d ↦ h d ])

neither : ⊥ ↔ (⊥ ⊎ ⊥)
neither = either_iff (λ i. absurd i) (λ i. i) (λ i. i)

some_same : (v w : Value) → Some v ≡ Some w → v ≡ w
some_same v w e = cc e

module _ (pick : Pick) where
  stays_beside : (v : ScalarValue) (a b both : Option ScalarValue) → IsFirstOfTwo (pick_cmp pick) a b both → first_of (pick_cmp pick) (Some v) both ≡ both
      → (first_of (pick_cmp pick) (Some v) a ≡ a) ⊎ (first_of (pick_cmp pick) (Some v) b ≡ b)
  stays_beside v a b None first e = absurd (cc e)
  stays_beside v a b (Some w) first e = elim first.0 [
    | inl is ↦ inl (subst (λ o. first_of (pick_cmp pick) (Some v) o ≡ o) (sym is) e)
    | inr is ↦ inr (subst (λ o. first_of (pick_cmp pick) (Some v) o ≡ o) (sym is) e)
  ]

  beside_first : (v : ScalarValue) (a b : Option ScalarValue) → first_of (pick_cmp pick) (Some v) a ≡ a → first_of (pick_cmp pick) (Some v) (first_of (pick_cmp pick) a b) ≡ first_of (pick_cmp pick) a b
  beside_first v a b e = sym (first-assoc (pick_cmp pick) (pick_total pick) (Some v) a b) ∙ ap (λ o. first_of (pick_cmp pick) o b) e

  beside_second : (v : ScalarValue) (a b : Option ScalarValue) → first_of (pick_cmp pick) (Some v) b ≡ b → first_of (pick_cmp pick) (Some v) (first_of (pick_cmp pick) a b) ≡ first_of (pick_cmp pick) a b
  beside_second v a b e =
      subst (λ o. first_of (pick_cmp pick) (Some v) o ≡ o) (first-comm (pick_cmp pick) (pick_total pick) (pick_exact pick) b a) (beside_first v b a e)

  scalars_either : (a b : Option ScalarValue) (v : ScalarValue) → Says (join (Scalar pick a) (Scalar pick b)) (StaysBeside v) ↔ (Says (Scalar pick a) (StaysBeside v) ⊎ Says (Scalar pick b) (StaysBeside v))
  scalars_either a b v =
      let u = (joins_are_unions).scalars pick a b in
      either_iff (λ t. stays_beside v a b u.0 u.2 (subst (λ j. Says j (StaysBeside v)) u.1 t)) (beside_first v a b) (beside_second v a b)

-- the scalar of a shape says which stays
own_pick : (pick : Pick) (kind : ScalarKind) (own : Pick) (a : Option ScalarValue) → IsOfShape (Shape.Scalar pick kind) (Scalar own a) → own ≡ pick
own_pick pick kind own None p = p
own_pick pick kind own (Some v) p = p.0

scalar_either : (pick : Pick) (kind : ScalarKind) (own other : Pick) (a b : Option ScalarValue) → IsOfShape (Shape.Scalar pick kind) (Scalar own a) → IsOfShape (Shape.Scalar pick kind) (Scalar other b)
    → (v : ScalarValue) → Says (join (Scalar own a) (Scalar other b)) (StaysBeside v) ↔ (Says (Scalar own a) (StaysBeside v) ⊎ Says (Scalar other b) (StaysBeside v))
scalar_either pick kind own other a b p q v =
    let same : own ≡ other = own_pick pick kind own a p ∙ sym (own_pick pick kind other b q) in
    subst (λ o. Says (join (Scalar own a) (Scalar o b)) (StaysBeside v) ↔ (Says (Scalar own a) (StaysBeside v) ⊎ Says (Scalar o b) (StaysBeside v))) same (scalars_either own a b v)

-- A scalar that stays beside itself stays beside the other, where that says no less.
scalar_said : (pick : Pick) (kind : ScalarKind) (own other : Pick) (v : ScalarValue) (b : Option ScalarValue) → IsOfShape (Shape.Scalar pick kind) (Scalar own (Some v)) → IsOfShape (Shape.Scalar pick kind) (Scalar other b)
    → (Says (Scalar own (Some v)) (StaysBeside v) → Says (Scalar other b) (StaysBeside v)) → IsValueBelow (Scalar own (Some v)) (Scalar other b)
scalar_said pick kind own other v b p q f =
    let same : own ≡ other = p.0 ∙ sym (own_pick pick kind other b q) in
    subst (λ o. Scalar o (first_of (pick_cmp o) (Some v) b) ≡ Scalar other b) (sym same) (ap (Scalar other) (f (first-idem (pick_cmp own) (pick_total own) (Some v))))

module _ (es ds : List (List ℕ × ℕ)) (p : IsOfShape Shape.Counter (Counter es)) (q : IsOfShape Shape.Counter (Counter ds)) where
  counts_either : (writer : List ℕ) (n : ℕ) → Says (join (Counter es) (Counter ds)) (CountsTo writer n) ↔ (Says (Counter es) (CountsTo writer n) ⊎ Says (Counter ds) (CountsTo writer n))
  counts_either writer n =
      let u = (joins_are_unions).counters es ds p q in
      subst (λ j. Says j (CountsTo writer n) ↔ (Says (Counter es) (CountsTo writer n) ⊎ Says (Counter ds) (CountsTo writer n))) (sym u.1)
      (either_iff
      (λ s.
      let enough = s.2 in
      elim (union_at name_code atom_cmp atoms_total max es ds u.0 u.2.0 u.2.1 writer s.0 s.1) [
        | inl t ↦ (let most = t.4 in elim (cases_lt t.0 t.1) [ inl less ↦ inr (t.1, t.3, omega (arith, enough, most, less)) | inr more ↦ inl (t.0, t.2, omega (arith, enough, most, more)) ])
        | inr t ↦ elim t [ inl a ↦ inl (s.0, a, enough) | inr b ↦ inr (s.0, b, enough) ]
      ])
      (λ s. let enough = s.2 in elim (first_at name_code max es ds u.0 u.2.1 writer s.0 s.1) [ inl at ↦ (s.0, at, enough) | inr t ↦ (max s.0 t.0, t.2, omega (arith, enough)) ])
      (λ s. let enough = s.2 in elim (second_at name_code max es ds u.0 u.2.1 writer s.0 s.1) [ inl at ↦ (s.0, at, enough) | inr t ↦ (max t.0 s.0, t.2, omega (arith, enough)) ]))

mutual
  pub says_join : (shape : Shape) (v w : Value) → IsOfShape shape v → IsOfShape shape w → (s : Saying) → Says (join v w) s ↔ (Says v s ⊎ Says w s)
  says_join Shape.Taint (Taint a) (Taint b) p q TaintOn = let u = (joins_are_unions).taints a b in subst (λ j. Says j TaintOn ↔ ((a ≡ true) ⊎ (b ≡ true))) (sym u.1) u.2
  says_join Shape.Taint (Taint a) (Taint b) p q s = neither
  says_join Shape.Taint (Taint a) w p q s = absurd q
  says_join Shape.Taint v w p q s = absurd p
  says_join (Shape.Scalar pick kind) (Scalar own a) (Scalar other b) p q (StaysBeside v) = scalar_either pick kind own other a b p q v
  says_join (Shape.Scalar pick kind) (Scalar own a) (Scalar other b) p q s = neither
  says_join (Shape.Scalar pick kind) (Scalar own a) w p q s = absurd q
  says_join (Shape.Scalar pick kind) v w p q s = absurd p
  says_join (Shape.Set kind) (Set own vs) (Set other ws) p q (HasElement v) =
      let same : other ≡ own = q.0 ∙ sym p.0 in
      let second = subst (λ k. IsOfShape (Shape.Set kind) (Set k ws)) same q in
      let u = (joins_are_unions).sets own vs ws (Proper-shape (Shape.Set kind) (Set own vs) p) (Proper-shape (Shape.Set kind) (Set own ws) second) in
      subst (λ k. Says (join (Set own vs) (Set k ws)) (HasElement v) ↔ (IsIn v vs ⊎ IsIn v ws)) (sym same)
      (subst (λ j. Says j (HasElement v) ↔ (IsIn v vs ⊎ IsIn v ws)) (sym u.1) (u.2.1 v))
  says_join (Shape.Set kind) (Set own vs) (Set other ws) p q s = neither
  says_join (Shape.Set kind) (Set own vs) w p q s = absurd q
  says_join (Shape.Set kind) v w p q s = absurd p
  says_join Shape.Counter (Counter es) (Counter ds) p q (CountsTo writer n) = counts_either es ds p q writer n
  says_join Shape.Counter (Counter es) (Counter ds) p q s = neither
  says_join Shape.Counter (Counter es) w p q s = absurd q
  says_join Shape.Counter v w p q s = absurd p
  says_join (Shape.Map kind inner) (Map es) (Map fs) p q (HasKey key) =
      let u = (joins_are_unions).maps es fs (Proper-shape (Shape.Map kind inner) (Map es) p) (Proper-shape (Shape.Map kind inner) (Map fs) q) in
      subst (λ j. Says j (HasKey key) ↔ (IsIn key (keys_of (pairs es)) ⊎ IsIn key (keys_of (pairs fs)))) (sym u.1) ((u.2.1).keys key)
  says_join (Shape.Map kind inner) (Map es) (Map fs) p q (OfKey key s) =
      let u = (joins_are_unions).maps es fs (Proper-shape (Shape.Map kind inner) (Map es) p) (Proper-shape (Shape.Map kind inner) (Map fs) q) in
      let own : (x : Value) → IsAt key x (pairs es) → IsOfShape inner x = λ x at. (EachPair-at (λ k y. IsScalarOf kind k × IsOfShape inner y) (pairs es) key x p.1 at).1 in
      let other : (x : Value) → IsAt key x (pairs fs) → IsOfShape inner x = λ x at. (EachPair-at (λ k y. IsScalarOf kind k × IsOfShape inner y) (pairs fs) key x q.1 at).1 in
      subst (λ j. Says j (OfKey key s) ↔ (Says (Map es) (OfKey key s) ⊎ Says (Map fs) (OfKey key s))) (sym u.1)
      (either_iff
      (λ t. elim (union_at scalar_code scalar_cmp scalar_total join (pairs es) (pairs fs) (pairs u.0) u.2.0 u.2.1 key t.0 t.1) [
        | inl m ↦ elim ((says_join inner m.0 m.1 (own m.0 m.2) (other m.1 m.3) s).0 (subst (λ x. Says x s) m.4 t.2)) [ inl a ↦ inl (m.0, m.2, a) | inr b ↦ inr (m.1, m.3, b) ]
        | inr m ↦ elim m [ inl a ↦ inl (t.0, a, t.2) | inr b ↦ inr (t.0, b, t.2) ]
      ])
      (λ t. elim (first_at scalar_code join (pairs es) (pairs fs) (pairs u.0) u.2.1 key t.0 t.1) [
        | inl at ↦ (t.0, at, t.2)
        | inr m ↦ (join t.0 m.0, m.2, (says_join inner t.0 m.0 (own t.0 t.1) (other m.0 m.1) s).1 (inl t.2))
      ])
      (λ t. elim (second_at scalar_code join (pairs es) (pairs fs) (pairs u.0) u.2.1 key t.0 t.1) [
        | inl at ↦ (t.0, at, t.2)
        | inr m ↦ (join m.0 t.0, m.2, (says_join inner m.0 t.0 (own m.0 m.1) (other t.0 t.1) s).1 (inr t.2))
      ]))
  says_join (Shape.Map kind inner) (Map es) (Map fs) p q s = neither
  says_join (Shape.Map kind inner) (Map es) w p q s = absurd q
  says_join (Shape.Map kind inner) v w p q s = absurd p
  says_join (Shape.Bag nodes) (Bag vs) (Bag ws) p q (OfField at s) = says_joins nodes vs ws p q at s
  says_join (Shape.Bag nodes) (Bag vs) (Bag ws) p q s = neither
  says_join (Shape.Bag nodes) (Bag vs) w p q s = absurd q
  says_join (Shape.Bag nodes) v w p q s = absurd p

  says_joins : (nodes : Nodes) (vs ws : Values) → AreOfShapes nodes vs → AreOfShapes nodes ws → (at : ℕ) (s : Saying)
      → Says (Bag (join_values vs ws)) (OfField at s) ↔ (Says (Bag vs) (OfField at s) ⊎ Says (Bag ws) (OfField at s))
  says_joins no_node no_value no_value p q at s = either_iff (λ t. absurd (cc t.1)) (λ t. t) (λ t. t)
  says_joins no_node no_value (value w ws) p q at s = absurd q
  says_joins no_node (value v vs) ws p q at s = absurd p
  says_joins (node name number shape nodes) no_value ws p q at s = absurd p
  says_joins (node name number shape nodes) (value v vs) no_value p q at s = absurd q
  says_joins (node name number shape nodes) (value v vs) (value w ws) p q zero s =
      let both = says_join shape v w p.0 q.0 s in
      either_iff
      (λ t. elim (both.0 (subst (λ x. Says x s) (sym (some_same (join v w) t.0 t.1)) t.2)) [ inl a ↦ inl (v, refl, a) | inr b ↦ inr (w, refl, b) ])
      (λ t. (join v w, refl, both.1 (inl (subst (λ x. Says x s) (sym (some_same v t.0 t.1)) t.2))))
      (λ t. (join v w, refl, both.1 (inr (subst (λ x. Says x s) (sym (some_same w t.0 t.1)) t.2))))
  says_joins (node name number shape nodes) (value v vs) (value w ws) p q (suc at) s = says_joins nodes vs ws p.1 q.1 at s

-- Bottom says nothing.
mutual
  says_nothing : (shape : Shape) (s : Saying) → Says (bottom shape) s → ⊥
  says_nothing Shape.Taint TaintOn t = cc t
  says_nothing Shape.Taint s t = t
  says_nothing (Shape.Scalar pick kind) (StaysBeside v) t = cc t
  says_nothing (Shape.Scalar pick kind) s t = t
  says_nothing (Shape.Set kind) (HasElement v) t = t
  says_nothing (Shape.Set kind) s t = t
  says_nothing Shape.Counter (CountsTo writer n) t = t.1
  says_nothing Shape.Counter s t = t
  says_nothing (Shape.Map kind inner) (HasKey key) t = t
  says_nothing (Shape.Map kind inner) (OfKey key s) t = t.1
  says_nothing (Shape.Map kind inner) s t = t
  says_nothing (Shape.Bag nodes) (OfField at s) t = say_nothing nodes at s t
  says_nothing (Shape.Bag nodes) s t = t

  say_nothing : (nodes : Nodes) (at : ℕ) (s : Saying) → Says (Bag (bottoms nodes)) (OfField at s) → ⊥
  say_nothing no_node at s t = cc t.1
  say_nothing (node name number shape nodes) zero s t = says_nothing shape s (subst (λ x. Says x s) (sym (some_same (bottom shape) t.0 t.1)) t.2)
  say_nothing (node name number shape nodes) (suc at) s t = say_nothing nodes at s t

-- ---- the values below a value are those that say no more

mutual
  pub below_said : (shape : Shape) (v w : Value) → IsOfShape shape v → IsOfShape shape w → ((s : Saying) → Says v s → Says w s) → IsValueBelow v w
  below_said Shape.Taint (Taint false) (Taint b) p q f = refl
  below_said Shape.Taint (Taint true) (Taint b) p q f = ap Taint (sym (f TaintOn refl))
  below_said Shape.Taint (Taint on) w p q f = absurd q
  below_said Shape.Taint v w p q f = absurd p
  below_said (Shape.Scalar pick kind) (Scalar own None) w p q f = subst (λ o. IsValueBelow (Scalar o None) w) (sym p) (below-bottom (Shape.Scalar pick kind) w q)
  below_said (Shape.Scalar pick kind) (Scalar own (Some v)) (Scalar other b) p q f = scalar_said pick kind own other v b p q (f (StaysBeside v))
  below_said (Shape.Scalar pick kind) (Scalar own (Some v)) w p q f = absurd q
  below_said (Shape.Scalar pick kind) v w p q f = absurd p
  below_said (Shape.Set kind) (Set own vs) (Set other ws) p q f =
      let same : other ≡ own = q.0 ∙ sym p.0 in
      subst (λ k. IsValueBelow (Set own vs) (Set k ws)) (sym same)
      (set_below own vs ws (Proper-shape (Shape.Set kind) (Set own vs) p) (Proper-shape (Shape.Set kind) (Set own ws) (subst (λ k. IsOfShape (Shape.Set kind) (Set k ws)) same q)) (λ v i. f (HasElement v) i))
  below_said (Shape.Set kind) (Set own vs) w p q f = absurd q
  below_said (Shape.Set kind) v w p q f = absurd p
  below_said Shape.Counter (Counter es) (Counter ds) p q f = counter_below es ds p q (λ writer n at. f (CountsTo writer n) (n, at, omega arith))
  below_said Shape.Counter (Counter es) w p q f = absurd q
  below_said Shape.Counter v w p q f = absurd p
  below_said (Shape.Map kind inner) (Map es) (Map fs) p q f =
      map_below es fs (Proper-shape (Shape.Map kind inner) (Map es) p) (Proper-shape (Shape.Map kind inner) (Map fs) q) (λ key v at.
      let w = key_value (pairs fs) key (f (HasKey key) (IsIn-keys_of (pairs es) key v at)) in (
        w.0,
        w.1,
        below_said inner v w.0 (EachPair-at (λ k x. IsScalarOf kind k × IsOfShape inner x) (pairs es) key v p.1 at).1
            (EachPair-at (λ k x. IsScalarOf kind k × IsOfShape inner x) (pairs fs) key w.0 q.1 w.1).1
            (λ s said. let t = f (OfKey key s) (v, at, said) in subst (λ x. Says x s) (IsAt-unique scalar_cmp scalar_total (pairs fs) key t.0 w.0 q.0 t.1 w.1) t.2),
      ))
  below_said (Shape.Map kind inner) (Map es) w p q f = absurd q
  below_said (Shape.Map kind inner) v w p q f = absurd p
  below_said (Shape.Bag nodes) (Bag vs) (Bag ws) p q f = bag_below vs ws (each_said nodes vs ws p q (λ at s said. f (OfField at s) said))
  below_said (Shape.Bag nodes) (Bag vs) w p q f = absurd q
  below_said (Shape.Bag nodes) v w p q f = absurd p

  each_said : (nodes : Nodes) (vs ws : Values) → AreOfShapes nodes vs → AreOfShapes nodes ws → ((at : ℕ) (s : Saying) → Says (Bag vs) (OfField at s) → Says (Bag ws) (OfField at s)) → join_values vs ws ≡ ws
  each_said no_node no_value no_value p q f = refl
  each_said no_node no_value (value w ws) p q f = absurd q
  each_said no_node (value v vs) ws p q f = absurd p
  each_said (node name number shape nodes) no_value ws p q f = absurd p
  each_said (node name number shape nodes) (value v vs) no_value p q f = absurd q
  each_said (node name number shape nodes) (value v vs) (value w ws) p q f =
      let own : join v w ≡ w = below_said shape v w p.0 q.0 (λ s said. let t = f 0 s (v, refl, said) in subst (λ x. Says x s) (sym (some_same w t.0 t.1)) t.2) in
      let rest : join_values vs ws ≡ ws = each_said nodes vs ws p.1 q.1 (λ at s said. f (suc at) s said) in
      λ i. value (own i) (rest i)

pub said_below : (shape : Shape) (v w : Value) → IsOfShape shape v → IsOfShape shape w → IsValueBelow v w → (s : Saying) → Says v s → Says w s
said_below shape v w p q below s said = subst (λ x. Says x s) below ((says_join shape v w p q s).1 (inl said))

-- ---- values together

pub none_together : (shape : Shape) → IsJoinOfAll shape [] (bottom shape)
none_together shape = record {
  of_shape = λ v i. absurd i;
  join = record { of_shape = IsOfShape-bottom shape; all = λ v i. absurd i; lowest = λ w p f. below-bottom shape w p };
}

pub one_more : (shape : Shape) (x : Value) (values : List Value) (joined : Value) → IsOfShape shape x → IsJoinOfAll shape values joined → IsJoinOfAll shape (x ∷ values) (join joined x)
one_more shape x values joined own j = record {
  of_shape = λ v i. elim i [ inl e ↦ subst (IsOfShape shape) (sym e) own | inr k ↦ j.of_shape v k ];
  join = record {
    of_shape = both;
    all = λ v i. elim i [
      | inl e ↦ subst (λ y. IsValueBelow y (join joined x)) (sym e) (below-second shape joined x (j.join).of_shape own)
      | inr k ↦ below-onwards shape v joined (join joined x) (j.of_shape v k) (j.join).of_shape both ((j.join).all v k) (below-first shape joined x (j.join).of_shape own)
    ];
    lowest = λ w p f. below-least shape joined x w (j.join).of_shape own p ((j.join).lowest w p (λ v i. f v (inr i))) (f x (inl refl));
  };
}
  where
    both : IsOfShape shape (join joined x)
    both = IsOfShape-join shape joined x (j.join).of_shape own

-- Values of a shape have a join, which says nothing that none of them says.
pub join_of_all : (shape : Shape) (values : List Value) → ((v : Value) → IsIn v values → IsOfShape shape v)
    → (joined : Value) × IsJoinOfAll shape values joined × ((s : Saying) → Says joined s → IsSaid s values)
join_of_all shape [] of = (bottom shape, none_together shape, λ s said. absurd (says_nothing shape s said))
join_of_all shape (x ∷ values) of =
    let more = join_of_all shape values (λ v i. of v (inr i)) in
    let own = of x (inl refl) in (
      join more.0 x,
      one_more shape x values more.0 own more.1,
      λ s said. elim ((says_join shape more.0 x ((more.1).join).of_shape own s).0 said) [ inl a ↦ (let t = more.2 s a in (t.0, inr t.1, t.2)) | inr b ↦ (x, inl refl, b) ],
    )

-- All that a value says is said by others together exactly where it is below their join.
pub said_together : (shape : Shape) (v : Value) (others : List Value) (joined : Value) → IsOfShape shape v → IsJoinOfAll shape others joined → IsSaidBy v others ↔ IsValueBelow v joined
said_together shape v others joined p j = (
  (λ said. below_said shape v joined p (j.join).of_shape (λ s t. let found = said s t in said_below shape found.0 joined (j.of_shape found.0 found.1) (j.join).of_shape ((j.join).all found.0 found.1) s found.2)),
  λ below s t.
      let all = join_of_all shape others j.of_shape in
      all.2 s (subst (λ x. Says x s) (least_one shape (λ x. IsIn x others) joined all.0 j.join (all.1).join) (said_below shape v joined p (j.join).of_shape below s t)),
)
