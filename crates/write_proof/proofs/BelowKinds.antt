-- What it takes for a value to say no more than another, kind by kind.
use Rattle.std.proofs.Common.{◌≡◌, inl, inr, ℕ, ◌≤◌, max, List, sym, ap, ◌∙◌, subst, arith}
use Rattle.std.specs.Coded.{Coded, coded_ℕ, coded_list}
use Rattle.context_model.specs.KeyedMerge.{IsAt}
use Rattle.context_model.specs.Orders.{IsIn, atom_cmp}
use Rattle.context_model.proofs.GreedyElements.{Rises-unique}
use Rattle.context_model.proofs.OrderLaws.{atoms_total, atoms_anti}
use Rattle.bag_model.specs.Joins.{join, join_values, IsValueBelow, Proper}
use Rattle.bag_model.specs.Scalars.{ScalarKind, ScalarValue, scalar_cmp}
use Rattle.bag_model.specs.ValueCode.{scalar_code}
use Rattle.bag_model.specs.Values.{Value, Entries, Values, Set, Counter, Map, Bag, pairs}
use Rattle.bag_model.proofs.JoinUnionLaws.{joins_are_unions}
use Rattle.bag_model.proofs.PairLaws.{pairs-injective}
use Rattle.bag_model.proofs.ScalarOrder.{scalar_total, scalar_exact}
use Rattle.write_proof.proofs.Keyed.{union_same, same_union}

-- ---- sets

set_one : (k l : ScalarKind) (a b : List ScalarValue) → Set k a ≡ Set l b → a ≡ b
set_one k l a b e = cc e

module _ (kind : ScalarKind) (vs ws : List ScalarValue) (p : Proper (Set kind vs)) (q : Proper (Set kind ws)) where
  pub set_below : ((v : ScalarValue) → IsIn v vs → IsIn v ws) → IsValueBelow (Set kind vs) (Set kind ws)
  set_below within =
      let u = (joins_are_unions).sets kind vs ws p q in
      let same : u.0 ≡ ws = Rises-unique scalar_cmp scalar_total u.0 ws u.2.0 q.0
      (λ v. ((λ i. elim ((u.2.1 v).0 i) [ inl j ↦ within v j | inr j ↦ j ]), λ i. (u.2.1 v).1 (inr i))) in
      u.1 ∙ ap (Set kind) same

  pub set_within : IsValueBelow (Set kind vs) (Set kind ws) → (v : ScalarValue) → IsIn v vs → IsIn v ws
  set_within below v i =
      let u = (joins_are_unions).sets kind vs ws p q in
      let same : u.0 ≡ ws = set_one kind kind u.0 ws (sym u.1 ∙ below) in
      subst (IsIn v) same ((u.2.1 v).1 (inl i))

-- ---- counters

counter_one : (a b : List (List ℕ × ℕ)) → Counter a ≡ Counter b → a ≡ b
counter_one a b e = cc e

-- a writer's name has a code
abbrev pub name_code : Coded (List ℕ)
name_code = coded_list coded_ℕ

module _ (es ds : List (List ℕ × ℕ)) (p : Proper (Counter es)) (q : Proper (Counter ds)) where
  pub counter_below : ((writer : List ℕ) (n : ℕ) → IsAt writer n es → (m : ℕ) × IsAt writer m ds × (n ≤ m)) → IsValueBelow (Counter es) (Counter ds)
  counter_below within =
      let u = (joins_are_unions).counters es ds p q in
      let same : u.0 ≡ ds = union_same name_code atom_cmp atoms_total atoms_anti max es ds u.0 p.0 q.0 u.2.0 u.2.1
      (λ k n at. let w = within k n at in let less = w.2 in (w.0, w.1, omega arith)) in
      u.1 ∙ ap Counter same

  pub counter_within : IsValueBelow (Counter es) (Counter ds) → (writer : List ℕ) (n : ℕ) → IsAt writer n es → (m : ℕ) × IsAt writer m ds × (n ≤ m)
  counter_within below writer n at =
      let u = (joins_are_unions).counters es ds p q in
      let same : u.0 ≡ ds = counter_one u.0 ds (sym u.1 ∙ below) in
      let w = same_union name_code atom_cmp atoms_total atoms_anti max es ds u.0 p.0 q.0 u.2.0 u.2.1 same writer n at in
      let most = w.2 in
      (w.0, w.1, omega arith)

-- ---- maps

map_one : (a b : Entries) → Map a ≡ Map b → a ≡ b
map_one a b e = cc e

module _ (es fs : Entries) (p : Proper (Map es)) (q : Proper (Map fs)) where
  pub map_below : ((key : ScalarValue) (v : Value) → IsAt key v (pairs es) → (w : Value) × IsAt key w (pairs fs) × IsValueBelow v w) → IsValueBelow (Map es) (Map fs)
  map_below within =
      let u = (joins_are_unions).maps es fs p q in
      let same : pairs u.0 ≡ pairs fs = union_same scalar_code scalar_cmp scalar_total scalar_exact join (pairs es) (pairs fs) (pairs u.0) p.0 q.0 u.2.0 u.2.1 within in
      u.1 ∙ ap Map (pairs-injective u.0 fs same)

  pub map_within : IsValueBelow (Map es) (Map fs) → (key : ScalarValue) (v : Value) → IsAt key v (pairs es) → (w : Value) × IsAt key w (pairs fs) × IsValueBelow v w
  map_within below key v at =
      let u = (joins_are_unions).maps es fs p q in
      let same : u.0 ≡ fs = map_one u.0 fs (sym u.1 ∙ below) in
      same_union scalar_code scalar_cmp scalar_total scalar_exact join (pairs es) (pairs fs) (pairs u.0) p.0 q.0 u.2.0 u.2.1 (ap pairs same) key v at

-- ---- bags

pub bag_below : (vs ws : Values) → join_values vs ws ≡ ws → IsValueBelow (Bag vs) (Bag ws)
bag_below vs ws e = ap Bag e
