-- A merge in two steps: what it brings to the first list, and then the merge in which what was brought replaces what was there.
use Rattle.std.proofs.Common.{◌≡◌, List, [], ◌∷◌, refl, sym, ◌∙◌, ap}
use Rattle.std.specs.declared.cmp.Ordering.{Ordering}
use Rattle.std.specs.declared.cmp.Ordering.TheVariants.{Less, Equal, Greater}
use Rattle.context_model.specs.KeyedMerge.{merge_with, brings, keys_of, later}
use Rattle.context_model.proofs.TwoLists.{two_lists}
use Rattle.context_model.proofs.MergeLaws.{with-right_empty, with-less, with-equal, with-greater}

module _ {K X : Type 0} (R : K → K → Ordering) (f : X → X → X) where
  pub brings-right_empty : (es : List (K × X)) → brings R f es [] ≡ []
  brings-right_empty [] = refl
  brings-right_empty (e ∷ es) = refl

  pub brings-less : (e d : K × X) (es ds : List (K × X)) → R e.0 d.0 ≡ Less → brings R f (e ∷ es) (d ∷ ds) ≡ brings R f es (d ∷ ds)
  brings-less e d es ds h = rw h refl

  pub brings-equal : (e d : K × X) (es ds : List (K × X)) → R e.0 d.0 ≡ Equal → brings R f (e ∷ es) (d ∷ ds) ≡ (d.0, f e.1 d.1) ∷ brings R f es ds
  brings-equal e d es ds h = rw h refl

  pub brings-greater : (e d : K × X) (es ds : List (K × X)) → R e.0 d.0 ≡ Greater → brings R f (e ∷ es) (d ∷ ds) ≡ d ∷ brings R f (e ∷ es) ds
  brings-greater e d es ds h = rw h refl

  record Begins (d : K × X) (list : List (K × X)) : Type 0 where
    value : X
    rest : List (K × X)
    is : list ≡ (d.0, value) ∷ rest

  -- What is brought begins with the first key of the second list.
  brings-begins : (es : List (K × X)) (d : K × X) (ds : List (K × X)) → Begins d (brings R f es (d ∷ ds))
  brings-begins [] d ds = record { value = d.1; rest = ds; is = refl }
  brings-begins (e ∷ es) d ds = by (brings-begins es d ds) (R e.0 d.0) refl
    where
      by : Begins d (brings R f es (d ∷ ds)) → (r : Ordering) → R e.0 d.0 ≡ r → Begins d (brings R f (e ∷ es) (d ∷ ds))
      by begins Less h = record { value = begins.value; rest = begins.rest; is = brings-less e d es ds h ∙ begins.is }
      by begins Equal h = record { value = f e.1 d.1; rest = brings R f es ds; is = brings-equal e d es ds h }
      by begins Greater h = record { value = d.1; rest = brings R f (e ∷ es) ds; is = brings-greater e d es ds h }

  abbrev Completes : List (K × X) → List (K × X) → Type 0
  Completes es ds = merge_with R later es (brings R f es ds) ≡ merge_with R f es ds

  completes_step : (e d : K × X) (es ds : List (K × X)) → Completes es (d ∷ ds) → Completes es ds → Completes (e ∷ es) ds → Completes (e ∷ es) (d ∷ ds)
  completes_step e d es ds less both more = by (R e.0 d.0) refl
    where
      by : (r : Ordering) → R e.0 d.0 ≡ r → Completes (e ∷ es) (d ∷ ds)
      by Less h =
          let begins = brings-begins es d ds in
          ap (merge_with R later (e ∷ es)) (brings-less e d es ds h ∙ begins.is)
          ∙ with-less R later e (d.0, begins.value) es begins.rest h
          ∙ ap (λ l. e ∷ merge_with R later es l) (sym begins.is)
          ∙ ap (λ l. e ∷ l) less
          ∙ sym (with-less R f e d es ds h)
      by Equal h =
          ap (merge_with R later (e ∷ es)) (brings-equal e d es ds h)
          ∙ with-equal R later e (d.0, f e.1 d.1) es (brings R f es ds) h
          ∙ ap (λ l. (e.0, f e.1 d.1) ∷ l) both
          ∙ sym (with-equal R f e d es ds h)
      by Greater h =
          ap (merge_with R later (e ∷ es)) (brings-greater e d es ds h)
          ∙ with-greater R later e d es (brings R f (e ∷ es) ds) h
          ∙ ap (λ l. d ∷ l) more
          ∙ sym (with-greater R f e d es ds h)

  -- What is brought, merged in place of what was there, is the merge.
  pub brings-completes : (es ds : List (K × X)) → merge_with R later es (brings R f es ds) ≡ merge_with R f es ds
  brings-completes = two_lists Completes (λ ds. refl) (λ es. ap (merge_with R later es) (brings-right_empty es) ∙ with-right_empty R later es ∙ sym (with-right_empty R f es)) completes_step

  abbrev HasSecondKeys : List (K × X) → List (K × X) → Type 0
  HasSecondKeys es ds = keys_of (brings R f es ds) ≡ keys_of ds

  brings-keys_step : (e d : K × X) (es ds : List (K × X)) → HasSecondKeys es (d ∷ ds) → HasSecondKeys es ds → HasSecondKeys (e ∷ es) ds → HasSecondKeys (e ∷ es) (d ∷ ds)
  brings-keys_step e d es ds less both more = by (R e.0 d.0) refl
    where
      by : (r : Ordering) → R e.0 d.0 ≡ r → HasSecondKeys (e ∷ es) (d ∷ ds)
      by Less h = ap keys_of (brings-less e d es ds h) ∙ less
      by Equal h = ap keys_of (brings-equal e d es ds h) ∙ ap (λ l. d.0 ∷ l) both
      by Greater h = ap keys_of (brings-greater e d es ds h) ∙ ap (λ l. d.0 ∷ l) more

  -- The keys of what is brought are those of the second list.
  pub keys_of-brings : (es ds : List (K × X)) → keys_of (brings R f es ds) ≡ keys_of ds
  keys_of-brings = two_lists HasSecondKeys (λ ds. refl) (λ es. ap keys_of (brings-right_empty es)) brings-keys_step
