-- The join of two values is the union of what they hold.
use Rattle.std.proofs.Common.{◌≡◌, inl, inr, ℕ, zero, suc, max, Bool, true, false, ◌||◌, Option, Some, None, Ordering, Less, Equal, Greater, length, refl, sym, ap, ◌∙◌, subst}
use Rattle.std.specs.Cmp.{IsTotalOrder, tied_itself}
use Rattle.std.specs.List.{slice_get}
use Rattle.std.specs.Ordering.{ordering_reverse}
use Rattle.context_model.specs.Orders.{atom_cmp, Rises, by_order}
use Rattle.context_model.specs.GreedyMerge.{greedy_merge, first_of}
use Rattle.context_model.specs.KeyedMerge.{merge_with, keys_of, IsUnion}
use Rattle.context_model.proofs.OrderLaws.{atoms_total, atoms_anti}
use Rattle.context_model.proofs.GreedyElements.{IsIn-greedy}
use Rattle.context_model.proofs.Rising.{Rises-greedy}
use Rattle.bag_model.specs.Scalars.{ScalarValue, scalar_cmp, pick_cmp}
use Rattle.bag_model.specs.Values.{Value, Entries, Values, no_value, value, pairs, values_list}
use Rattle.bag_model.specs.Joins.{join, join_entries, join_values, AreAlike}
use Rattle.bag_model.specs.JoinUnions.{IsEither, IsFirstOfTwo, IsMapUnion, JoinsAreUnions, BottomSaysNothing}
use Rattle.bag_model.proofs.ScalarOrder.{scalar_total, scalar_exact, pick_total}
use Rattle.bag_model.proofs.PairLaws.{Rises-merged, keys-merged, pairs-join}
use Rattle.bag_model.proofs.OfShape.{IsOfShape-bottom, IsBottom-bottom, bottom-one}

either : (a b : Bool) → IsEither a b (a || b)
either true b = ((λ e. inl refl), λ s. refl)
either false b = ((λ e. inr e), λ s. elim s [ inl e ↦ absurd (cc e) | inr e ↦ e ])

-- ---- the first of two scalars

held : (v w : ScalarValue) → Some v ≡ Some w → w ≡ v
held v w e = cc e

module _ (R : ScalarValue → ScalarValue → Ordering) (total : IsTotalOrder R) where
  not_less_itself : (v w : ScalarValue) → w ≡ v → R w v ≡ Less → ⊥
  not_less_itself v w same less =
      let tie : R w v ≡ Equal = ap (R w) (sym same) ∙ tied_itself total w in
      let clash : Less ≡ Equal = sym less ∙ tie in
      cc

  first_alone : (v : ScalarValue) → IsFirstOfTwo R None (Some v) (Some v)
  first_alone v = (inr refl, λ w s less. elim s [ inl e ↦ absurd (cc e) | inr e ↦ not_less_itself v w (held v w e) less ])

  last_alone : (v : ScalarValue) → IsFirstOfTwo R (Some v) None (Some v)
  last_alone v = (inl refl, λ w s less. elim s [ inl e ↦ not_less_itself v w (held v w e) less | inr e ↦ absurd (cc e) ])

  -- the second isn't less than the first
  own_first : (v u : ScalarValue) → (R u v ≡ Less → ⊥) → IsFirstOfTwo R (Some v) (Some u) (Some v)
  own_first v u none = (
    inl refl,
    λ w s less. elim s [ inl e ↦ not_less_itself v w (held v w e) less | inr e ↦ none (subst (λ x. R x v ≡ Less) (held u w e) less) ],
  )

  other_first : (v u : ScalarValue) → (R v u ≡ Less → ⊥) → IsFirstOfTwo R (Some v) (Some u) (Some u)
  other_first v u none = (
    inr refl,
    λ w s less. elim s [ inl e ↦ none (subst (λ x. R x u ≡ Less) (held v w e) less) | inr e ↦ not_less_itself u w (held u w e) less ],
  )

  first_by : (v u : ScalarValue) (r : Ordering) → R v u ≡ r → IsFirstOfTwo R (Some v) (Some u) (by_order r (Some v) (Some v) (Some u))
  first_by v u Less e = own_first v u (λ less. let clash : Less ≡ Greater = sym e ∙ total.antisymm v u ∙ ap ordering_reverse less in cc)
  first_by v u Equal e = own_first v u (λ less. let clash : Equal ≡ Greater = sym e ∙ total.antisymm v u ∙ ap ordering_reverse less in cc)
  first_by v u Greater e = other_first v u (λ less. let clash : Less ≡ Greater = sym less ∙ e in cc)

  first : (a b : Option ScalarValue) → IsFirstOfTwo R a b (first_of R a b)
  first None None = (refl, refl)
  first None (Some v) = first_alone v
  first (Some v) None = last_alone v
  first (Some v) (Some u) = first_by v u (R v u) refl

-- ---- maps

map_union : (a b : Entries) → Rises scalar_cmp (keys_of (pairs a)) → Rises scalar_cmp (keys_of (pairs b)) → IsMapUnion a b (join_entries a b)
map_union a b p q = (
  subst (λ l. Rises scalar_cmp (keys_of l)) (sym (pairs-join a b)) (Rises-merged scalar_cmp scalar_total scalar_exact join (pairs a) (pairs b) p q),
  subst (IsUnion join (pairs a) (pairs b)) (sym (pairs-join a b)) (keys-merged scalar_cmp scalar_total scalar_exact join (pairs a) (pairs b) p q),
)

-- ---- bags

joined_long : (a b : Values) → AreAlike a b → length (values_list (join_values a b)) ≡ length (values_list a)
joined_long no_value b alike = refl
joined_long (value v vs) no_value alike = refl
joined_long (value v vs) (value w ws) alike = ap (λ n. suc n) (joined_long vs ws alike.1)

joined_at : (a b : Values) → AreAlike a b → (at : ℕ) (v w : Value) → slice_get (values_list a) at ≡ Some v → slice_get (values_list b) at ≡ Some w
    → slice_get (values_list (join_values a b)) at ≡ Some (join v w)
joined_at no_value b alike at v w here there = absurd (cc here)
joined_at (value x xs) no_value alike at v w here there = absurd (cc there)
joined_at (value x xs) (value y ys) alike zero v w here there =
    let own : x ≡ v = cc here in
    let other : y ≡ w = cc there in
    λ i. Some (join (own i) (other i))
joined_at (value x xs) (value y ys) alike (suc at) v w here there = joined_at xs ys alike.1 at v w here there

-- ---- the laws

pub joins_are_unions : JoinsAreUnions
joins_are_unions = record {
  taints = λ a b. (a || b, refl, either a b);
  scalars = λ pick a b. (first_of (pick_cmp pick) a b, refl, first (pick_cmp pick) (pick_total pick) a b);
  sets = λ kind a b p q. (greedy_merge scalar_cmp a b, refl, (Rises-greedy scalar_cmp scalar_total a b p.0 q.0, IsIn-greedy scalar_cmp scalar_total scalar_exact a b));
  counters = λ a b p q. (merge_with atom_cmp max a b, refl, (Rises-merged atom_cmp atoms_total atoms_anti max a b p.0 q.0, keys-merged atom_cmp atoms_total atoms_anti max a b p.0 q.0));
  maps = λ a b p q. (join_entries a b, refl, map_union a b p.0 q.0);
  bags = λ a b alike. (join_values a b, refl, record { long = joined_long a b alike; each = joined_at a b alike });
}

pub bottom_says_nothing : BottomSaysNothing
bottom_says_nothing = record { shape = IsOfShape-bottom; nothing = IsBottom-bottom; only = bottom-one }
