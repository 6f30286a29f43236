-- A map through a merge.
use Rattle.std.proofs.Common.{◌≡◌, List, ◌∷◌, map, refl, sym, ◌∙◌, ap, inl, inr}
use Rattle.std.specs.declared.cmp.Ordering.{Ordering}
use Rattle.std.specs.declared.cmp.Ordering.TheVariants.{Less, Equal, Greater}
use Rattle.context_model.specs.Orders.{IsIn}
use Rattle.context_model.specs.GreedyMerge.{greedy_merge}
use Rattle.context_model.proofs.TwoLists.{two_lists}
use Rattle.context_model.proofs.Rising.{greedy-right_empty, greedy-less, greedy-equal, greedy-greater}

module _ {A B : Type 0} (R : A → A → Ordering) (S : B → B → Ordering) (f : A → B) where
  abbrev IsMapped : List A → List A → Type 0
  IsMapped xs ys = ((x y : A) → IsIn x xs → IsIn y ys → R x y ≡ S (f x) (f y)) → map f (greedy_merge R xs ys) ≡ greedy_merge S (map f xs) (map f ys)

  mapped_step : (x y : A) (xs ys : List A) → IsMapped xs (y ∷ ys) → IsMapped xs ys → IsMapped (x ∷ xs) ys → IsMapped (x ∷ xs) (y ∷ ys)
  mapped_step x y xs ys less both more same = by (R x y) refl
    where
      heads : R x y ≡ S (f x) (f y)
      heads = same x y (inl refl) (inl refl)

      by : (r : Ordering) → R x y ≡ r → map f (greedy_merge R (x ∷ xs) (y ∷ ys)) ≡ greedy_merge S (map f (x ∷ xs)) (map f (y ∷ ys))
      by Less h = ap (map f) (greedy-less R x y xs ys h) ∙ ap (λ l. f x ∷ l) (less (λ v w i j. same v w (inr i) j))
          ∙ sym (greedy-less S (f x) (f y) (map f xs) (map f ys) (sym heads ∙ h))
      by Equal h = ap (map f) (greedy-equal R x y xs ys h) ∙ ap (λ l. f x ∷ l) (both (λ v w i j. same v w (inr i) (inr j)))
          ∙ sym (greedy-equal S (f x) (f y) (map f xs) (map f ys) (sym heads ∙ h))
      by Greater h = ap (map f) (greedy-greater R x y xs ys h) ∙ ap (λ l. f y ∷ l) (more (λ v w i j. same v w i (inr j)))
          ∙ sym (greedy-greater S (f x) (f y) (map f xs) (map f ys) (sym heads ∙ h))

  -- To merge and then map is to map and then merge, where the orders agree on elements of both lists.
  pub map-greedy : (xs ys : List A) → ((x y : A) → IsIn x xs → IsIn y ys → R x y ≡ S (f x) (f y)) → map f (greedy_merge R xs ys) ≡ greedy_merge S (map f xs) (map f ys)
  map-greedy = two_lists IsMapped (λ ys same. refl) (λ xs same. ap (map f) (greedy-right_empty R xs) ∙ sym (greedy-right_empty S (map f xs))) mapped_step
