-- Lists in order: what is below them, and that a merge of two is in order.
use Rattle.std.proofs.Common.{◌≡◌, List, [], ◌∷◌, ◌++◌, refl, sym, ◌∙◌, ap, subst, inl, inr}
use Rattle.std.specs.Cmp.{IsTotalOrder, tied_itself}
use Rattle.std.specs.declared.cmp.Ordering.{Ordering}
use Rattle.std.specs.declared.cmp.Ordering.TheVariants.{Less, Equal, Greater}
use Rattle.std.specs.Ordering.{ordering_reverse}
use Rattle.context_model.specs.Orders.{IsIn, Rises}
use Rattle.context_model.specs.GreedyMerge.{greedy_merge, AllBelow}
use Rattle.context_model.proofs.TwoLists.{two_lists}

-- a is below the first element
abbrev pub IsBelow : {K : Type 0} → (K → K → Ordering) → K → List K → Type 0
IsBelow R a [] = Unit {0}
IsBelow R a (x ∷ xs) = R a x ≡ Less

module _ {K : Type 0} (R : K → K → Ordering) where
  pub greedy-right_empty : (xs : List K) → greedy_merge R xs [] ≡ xs
  greedy-right_empty [] = refl
  greedy-right_empty (x ∷ xs) = refl

  pub greedy-less : (x y : K) (xs ys : List K) → R x y ≡ Less → greedy_merge R (x ∷ xs) (y ∷ ys) ≡ x ∷ greedy_merge R xs (y ∷ ys)
  greedy-less x y xs ys h = rw h refl

  pub greedy-equal : (x y : K) (xs ys : List K) → R x y ≡ Equal → greedy_merge R (x ∷ xs) (y ∷ ys) ≡ x ∷ greedy_merge R xs ys
  greedy-equal x y xs ys h = rw h refl

  pub greedy-greater : (x y : K) (xs ys : List K) → R x y ≡ Greater → greedy_merge R (x ∷ xs) (y ∷ ys) ≡ y ∷ greedy_merge R (x ∷ xs) ys
  greedy-greater x y xs ys h = rw h refl

  pub Rises-cons : (x : K) (xs : List K) → IsBelow R x xs → Rises R xs → Rises R (x ∷ xs)
  Rises-cons x [] below rest = tt
  Rises-cons x (y ∷ ys) below rest = (below, rest)

  pub Rises-head : (x : K) (xs : List K) → Rises R (x ∷ xs) → IsBelow R x xs
  Rises-head x [] rises = tt
  Rises-head x (y ∷ ys) rises = rises.0

  pub Rises-tail : (x : K) (xs : List K) → Rises R (x ∷ xs) → Rises R xs
  Rises-tail x [] rises = tt
  Rises-tail x (y ∷ ys) rises = rises.1

  -- An element after all others keeps a list in order.
  pub Rises-push : (xs : List K) (k : K) → Rises R xs → AllBelow R xs k → Rises R (xs ++ k ∷ [])
  Rises-push [] k rises below = tt
  Rises-push (x ∷ []) k rises below = (below.0, tt)
  Rises-push (x ∷ y ∷ ys) k rises below = (rises.0, Rises-push (y ∷ ys) k rises.1 below.1)

module _ {K : Type 0} (R : K → K → Ordering) (total : IsTotalOrder R) where
  -- The first element of a list in order is below each other.
  pub Rises-before : (x : K) (xs : List K) → Rises R (x ∷ xs) → (y : K) → IsIn y xs → R x y ≡ Less
  Rises-before x [] rises y none = elim none [ ]
  Rises-before x (z ∷ zs) rises y (inl same) = let P : K → Type 0 = λ k. R x k ≡ Less in subst P (sym same) rises.0
  Rises-before x (z ∷ zs) rises y (inr later) = total.trans x z y rises.0 (Rises-before z zs rises.1 y later)

  -- The first element of a list in order is none of the others.
  pub not_behind : (x : K) (xs : List K) (y : K) → Rises R (x ∷ xs) → y ≡ x → IsIn y xs → ⊥
  not_behind x xs y rises same at =
      let less = Rises-before x xs rises y at in
      let tie = tied_itself total x in
      cc

  greedy-below : (a : K) (xs ys : List K) → IsBelow R a xs → IsBelow R a ys → IsBelow R a (greedy_merge R xs ys)
  greedy-below a [] ys p q = q
  greedy-below a (x ∷ xs) [] p q = p
  greedy-below a (x ∷ xs) (y ∷ ys) p q = by (R x y) refl
    where
      by : (r : Ordering) → R x y ≡ r → IsBelow R a (greedy_merge R (x ∷ xs) (y ∷ ys))
      by Less h = rw h p
      by Equal h = rw h p
      by Greater h = rw h q

  tied_below : (x y : K) (ys : List K) → R x y ≡ Equal → IsBelow R y ys → IsBelow R x ys
  tied_below x y [] tie below = tt
  tied_below x y (z ∷ zs) tie below = total.congr x y z tie ∙ below

  abbrev KeepsOrder : List K → List K → Type 0
  KeepsOrder xs ys = Rises R xs → Rises R ys → Rises R (greedy_merge R xs ys)

  rising_step : (x y : K) (xs ys : List K) → KeepsOrder xs (y ∷ ys) → KeepsOrder xs ys → KeepsOrder (x ∷ xs) ys → KeepsOrder (x ∷ xs) (y ∷ ys)
  rising_step x y xs ys less both more p q = by (R x y) refl
    where
      by : (r : Ordering) → R x y ≡ r → Rises R (greedy_merge R (x ∷ xs) (y ∷ ys))
      by Less h = rw (greedy-less R x y xs ys h) (Rises-cons R x (greedy_merge R xs (y ∷ ys)) (greedy-below x xs (y ∷ ys) (Rises-head R x xs p) h) (less (Rises-tail R x xs p) q))
      by Equal h = rw (greedy-equal R x y xs ys h) (Rises-cons R x (greedy_merge R xs ys) (greedy-below x xs ys (Rises-head R x xs p) (tied_below x y ys h (Rises-head R y ys q))) (both (Rises-tail R x xs p) (Rises-tail R y ys q)))
      by Greater h = rw (greedy-greater R x y xs ys h) (Rises-cons R y (greedy_merge R (x ∷ xs) ys) (greedy-below y (x ∷ xs) ys (total.antisymm y x ∙ ap ordering_reverse h) (Rises-head R y ys q)) (more p (Rises-tail R y ys q)))

  -- A merge of two lists in order is in order.
  pub Rises-greedy : (xs ys : List K) → Rises R xs → Rises R ys → Rises R (greedy_merge R xs ys)
  Rises-greedy = two_lists KeepsOrder (λ ys p q. q) (λ xs p q. subst (Rises R) (sym (greedy-right_empty R xs)) p) rising_step
