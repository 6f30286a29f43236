-- The first of two values that may be there: in any order of the arguments, in any grouping, once and twice.
use Rattle.std.proofs.Common.{◌≡◌, List, [], ◌∷◌, Option, Some, None, Ordering, Less, Equal, Greater, refl, sym, ap, ◌∙◌}
use Rattle.std.specs.Cmp.{IsTotalOrder}
use Rattle.std.specs.FinMap.{IsAntisymmetric}
use Rattle.context_model.specs.Orders.{by_order}
use Rattle.context_model.specs.GreedyMerge.{greedy_merge, first_of}
use Rattle.context_model.proofs.GreedyLaws.{greedy-comm, greedy-assoc, greedy-idem}

-- It is the first of the greedy merge of two lists of at most one value.
abbrev first_item : {K : Type 0} → List K → Option K
first_item [] = None
first_item (x ∷ xs) = Some x

abbrev items_of : {K : Type 0} → Option K → List K
items_of None = []
items_of (Some x) = x ∷ []

module _ {K : Type 0} where
  first-items : (o : Option K) → first_item (items_of o) ≡ o
  first-items None = refl
  first-items (Some x) = refl

module _ {K : Type 0} (R : K → K → Ordering) where
  first-greedy : (xs ys : List K) → first_item (greedy_merge R xs ys) ≡ first_of R (first_item xs) (first_item ys)
  first-greedy [] ys = refl
  first-greedy (x ∷ xs) [] = refl
  first-greedy (x ∷ xs) (y ∷ ys) =
      elim (R x y) as (λ r. first_item (by_order r (x ∷ greedy_merge R xs (y ∷ ys)) (x ∷ greedy_merge R xs ys) (y ∷ greedy_merge R (x ∷ xs) ys)) ≡ by_order r (Some x) (Some x) (Some y)) [
        | Less ↦ refl
        | Equal ↦ refl
        | Greater ↦ refl
      ]

  first-of : (a b : Option K) → first_of R a b ≡ first_item (greedy_merge R (items_of a) (items_of b))
  first-of a b = sym (first-greedy (items_of a) (items_of b) ∙ (λ i. first_of R (first-items a i) (first-items b i)))

module _ {K : Type 0} (R : K → K → Ordering) (total : IsTotalOrder R) where
  pub first-assoc : (a b c : Option K) → first_of R (first_of R a b) c ≡ first_of R a (first_of R b c)
  first-assoc a b c =
      (λ i. first_of R (first-of R a b i) (sym (first-items c) i))
      ∙ sym (first-greedy R (greedy_merge R (items_of a) (items_of b)) (items_of c))
      ∙ ap first_item (greedy-assoc R total (items_of a) (items_of b) (items_of c))
      ∙ first-greedy R (items_of a) (greedy_merge R (items_of b) (items_of c))
      ∙ (λ i. first_of R (first-items a i) (sym (first-of R b c) i))

  pub first-idem : (a : Option K) → first_of R a a ≡ a
  first-idem a = first-of R a a ∙ ap first_item (greedy-idem R total (items_of a)) ∙ first-items a

  pub first-comm : IsAntisymmetric R → (a b : Option K) → first_of R a b ≡ first_of R b a
  first-comm anti a b = first-of R a b ∙ ap first_item (greedy-comm R total (items_of a) (items_of b) (λ x y i j tie. anti x y tie)) ∙ sym (first-of R b a)
