-- A merge of two lists by places: what was put out so far, and then the merge of what is left of both.
use Rattle.std.proofs.Common.{◌≡◌, ℕ, ◌+◌, ◌<◌, ◌≤◌, ◌⊎◌, inl, inr, List, [], ◌∷◌, ◌++◌, length, drop, get_or, refl, sym, ◌∙◌, ap, append_assoc, add-one, drop-cons, arith}
use Rattle.std.proofs.lemmas.List.{drop_all, append-nil}
use Rattle.std.specs.declared.cmp.Ordering.{Ordering}
use Rattle.context_model.specs.KeyedMerge.{merge_with, brings}
use Rattle.context_model.proofs.MergeLaws.{with-right_empty}
use Rattle.context_model.proofs.Brought.{brings-right_empty}

-- What is left at a place begins with the element there.
pub drop-place : {A : Type 0} (xs : List A) (i : ℕ) (x : A) → i < length xs → x ≡ get_or xs i x → drop i xs ≡ x ∷ drop (i + 1) xs
drop-place xs i x h is = drop-cons xs i x h ∙ (let a = sym is in let b = sym (add-one i) in λ t. a t ∷ drop (b t) xs)

module _ {K X : Type 0} (R : K → K → Ordering) (f : X → X → X) where
  -- Where nothing is left of one list, the rest of the second ends what is brought.
  pub brings_rest : (es ds : List (K × X)) (i j : ℕ) (out whole : List (K × X)) → (length es ≤ i) ⊎ (length ds ≤ j) → out ++ brings R f (drop i es) (drop j ds) ≡ whole → out ++ drop j ds ≡ whole
  brings_rest es ds i j out whole (inl over) so_far = ap (λ l. out ++ brings R f l (drop j ds)) (sym (drop_all i es over)) ∙ so_far
  brings_rest es ds i j out whole (inr over) so_far =
      let b = drop_all j ds over in
      ap (λ l. out ++ l) (b ∙ sym (brings-right_empty R f (drop i es))) ∙ ap (λ l. out ++ brings R f (drop i es) l) (sym b) ∙ so_far

module _ {K X : Type 0} (R : K → K → Ordering) (f : X → X → X) where
  empty : {A : Type 0} (xs : List A) → length xs ≤ 0 → xs ≡ []
  empty [] none = refl
  empty (x ∷ xs) none = absurd (omega (arith, none))

  -- Where one list is used up, the other ends the merge.
  pub with_rests : (es ds out whole : List (K × X)) → (length es ≤ 0) ⊎ (length ds ≤ 0) → out ++ merge_with R f es ds ≡ whole → (out ++ es) ++ ds ≡ whole
  with_rests es ds out whole (inl none) so_far =
      let a = empty es none in
      append_assoc out es ds ∙ ap (λ l. out ++ (l ++ ds)) a ∙ ap (λ l. out ++ merge_with R f l ds) (sym a) ∙ so_far
  with_rests es ds out whole (inr none) so_far =
      let b = empty ds none in
      ap (λ l. (out ++ es) ++ l) b ∙ append-nil (out ++ es) ∙ ap (λ l. out ++ l) (sym (with-right_empty R f es)) ∙ ap (λ l. out ++ merge_with R f es l) (sym b) ∙ so_far
