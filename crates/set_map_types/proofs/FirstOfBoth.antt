-- What first_of gives is the first of both.
use Rattle.std.proofs.Common.{◌≡◌, inl, inr, Option, Some, None, Ordering, Less, Equal, Greater, refl, sym, ap, ◌∙◌, subst}
use Rattle.std.specs.Cmp.{IsTotalOrder, tied_itself}
use Rattle.std.specs.Ordering.{flip_args, ordering_reverse}
use Rattle.context_model.specs.Orders.{by_order}
use Rattle.context_model.specs.GreedyMerge.{first_of}
use Rattle.set_map_types.specs.Picks.{IsFirstOfBoth, IsLastOfBoth}

module _ {V : Type 0} (R : V → V → Ordering) (total : IsTotalOrder R) where
  held : (v w : V) → Some v ≡ Some w → w ≡ v
  held v w e = cc e

  not_less_itself : (v w : V) → w ≡ v → R w v ≡ Less → ⊥
  not_less_itself v w same less =
      let tie : R w v ≡ Equal = ap (R w) (sym same) ∙ tied_itself total w in
      let clash : Less ≡ Equal = sym less ∙ tie in
      cc

  first_alone : (v : V) → IsFirstOfBoth R None (Some v) (Some v)
  first_alone v = (inr refl, λ w s less. elim s [ inl e ↦ absurd (cc e) | inr e ↦ not_less_itself v w (held v w e) less ])

  last_alone : (v : V) → IsFirstOfBoth R (Some v) None (Some v)
  last_alone v = (inl refl, λ w s less. elim s [ inl e ↦ not_less_itself v w (held v w e) less | inr e ↦ absurd (cc e) ])

  -- The second isn't less than the first.
  own_first : (v u : V) → (R u v ≡ Less → ⊥) → IsFirstOfBoth R (Some v) (Some u) (Some v)
  own_first v u none = (
    inl refl,
    λ w s less. elim s [ inl e ↦ not_less_itself v w (held v w e) less | inr e ↦ none (subst (λ x. R x v ≡ Less) (held u w e) less) ],
  )

  other_first : (v u : V) → (R v u ≡ Less → ⊥) → IsFirstOfBoth R (Some v) (Some u) (Some u)
  other_first v u none = (
    inr refl,
    λ w s less. elim s [ inl e ↦ none (subst (λ x. R x u ≡ Less) (held v w e) less) | inr e ↦ not_less_itself u w (held u w e) less ],
  )

  first_by : (v u : V) (r : Ordering) → R v u ≡ r → IsFirstOfBoth R (Some v) (Some u) (by_order r (Some v) (Some v) (Some u))
  first_by v u Less e = own_first v u (λ less. let clash : Less ≡ Greater = sym e ∙ total.antisymm v u ∙ ap ordering_reverse less in cc)
  first_by v u Equal e = own_first v u (λ less. let clash : Equal ≡ Greater = sym e ∙ total.antisymm v u ∙ ap ordering_reverse less in cc)
  first_by v u Greater e = other_first v u (λ less. let clash : Less ≡ Greater = sym less ∙ e in cc)

  pub first_of_both : (a b : Option V) → IsFirstOfBoth R a b (first_of R a b)
  first_of_both None None = (refl, refl)
  first_of_both None (Some v) = first_alone v
  first_of_both (Some v) None = last_alone v
  first_of_both (Some v) (Some u) = first_by v u (R v u) refl

-- The first in the order turned round is the last.
pub turned_last : {V : Type 0} (R : V → V → Ordering) (a b both : Option V) → IsFirstOfBoth (flip_args R) a b both → IsLastOfBoth R a b both
turned_last R a b None none = none
turned_last R a b (Some v) first = first
