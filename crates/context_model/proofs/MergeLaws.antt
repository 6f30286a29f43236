-- The laws of a merge of lists of keys with values, for any total order of the keys. No list has to
-- be in order, except where the law says so. What f has to meet is asked only of the values of
-- pairs whose keys tie.
use Rattle.std.proofs.Common.{◌≡◌, List, [], ◌∷◌, refl, sym, ◌∙◌, ap, subst, inl, inr, ◌⊎◌}
use Rattle.std.specs.Cmp.{IsTotalOrder, tied_itself, tied_back, alike_right}
use Rattle.std.specs.declared.cmp.Ordering.{Ordering}
use Rattle.std.specs.declared.cmp.Ordering.TheVariants.{Less, Equal, Greater}
use Rattle.std.specs.Ordering.{ordering_reverse}
use Rattle.context_model.specs.Orders.{IsIn, Rises}
use Rattle.context_model.specs.GreedyMerge.{greedy_merge}
use Rattle.context_model.specs.KeyedMerge.{merge_with, keys_of, EachPair, IsAt}
use Rattle.context_model.proofs.TwoLists.{two_lists}
use Rattle.context_model.proofs.Rising.{Rises-tail, not_behind, greedy-right_empty, greedy-less, greedy-equal, greedy-greater}

-- Q holds of each two pairs, one of each list, whose keys tie.
abbrev pub AtTies : {K X : Type 0} → (K → K → Ordering) → (K → X → K → X → Type 0) → List (K × X) → List (K × X) → Type 0
AtTies {K} {X} R Q es ds = (k j : K) (v w : X) → IsAt k v es → IsAt j w ds → R k j ≡ Equal → Q k v j w

module _ {K X : Type 0} (R : K → K → Ordering) (f : X → X → X) where
  pub with-right_empty : (es : List (K × X)) → merge_with R f es [] ≡ es
  with-right_empty [] = refl
  with-right_empty (e ∷ es) = refl

  pub with-less : (e d : K × X) (es ds : List (K × X)) → R e.0 d.0 ≡ Less → merge_with R f (e ∷ es) (d ∷ ds) ≡ e ∷ merge_with R f es (d ∷ ds)
  with-less e d es ds h = rw h refl

  pub with-equal : (e d : K × X) (es ds : List (K × X)) → R e.0 d.0 ≡ Equal → merge_with R f (e ∷ es) (d ∷ ds) ≡ (e.0, f e.1 d.1) ∷ merge_with R f es ds
  with-equal e d es ds h = rw h refl

  pub with-greater : (e d : K × X) (es ds : List (K × X)) → R e.0 d.0 ≡ Greater → merge_with R f (e ∷ es) (d ∷ ds) ≡ d ∷ merge_with R f (e ∷ es) ds
  with-greater e d es ds h = rw h refl

module _ {K X : Type 0} (R : K → K → Ordering) (total : IsTotalOrder R) (f : X → X → X) where
  greater_back : (x y : K) → R x y ≡ Less → R y x ≡ Greater
  greater_back x y h = total.antisymm y x ∙ ap ordering_reverse h

  less_back : (x y : K) → R x y ≡ Greater → R y x ≡ Less
  less_back x y h = total.antisymm y x ∙ ap ordering_reverse h

  abbrev Swaps : List (K × X) → List (K × X) → Type 0
  Swaps es ds = AtTies R (λ k v j w. (k ≡ j) × (f v w ≡ f w v)) es ds → merge_with R f es ds ≡ merge_with R f ds es

  swaps_step : (e d : K × X) (es ds : List (K × X)) → Swaps es (d ∷ ds) → Swaps es ds → Swaps (e ∷ es) ds → Swaps (e ∷ es) (d ∷ ds)
  swaps_step e d es ds less both more same = by (R e.0 d.0) refl
    where
      by : (r : Ordering) → R e.0 d.0 ≡ r → merge_with R f (e ∷ es) (d ∷ ds) ≡ merge_with R f (d ∷ ds) (e ∷ es)
      by Less h = with-less R f e d es ds h ∙ ap (λ l. e ∷ l) (less (λ k j v w p q. same k j v w (inr p) q)) ∙ sym (with-greater R f d e ds es (greater_back e.0 d.0 h))
      by Equal h = let one = same e.0 d.0 e.1 d.1 (inl (refl, refl)) (inl (refl, refl)) h in
          with-equal R f e d es ds h ∙ (λ i. (one.0 i, one.1 i) ∷ both (λ k j v w p q. same k j v w (inr p) (inr q)) i) ∙ sym (with-equal R f d e ds es (tied_back total e.0 d.0 h))
      by Greater h = with-greater R f e d es ds h ∙ ap (λ l. d ∷ l) (more (λ k j v w p q. same k j v w p (inr q))) ∙ sym (with-less R f d e ds es (less_back e.0 d.0 h))

  -- A merge doesn't know which list came first.
  pub with-comm : (es ds : List (K × X)) → AtTies R (λ k v j w. (k ≡ j) × (f v w ≡ f w v)) es ds → merge_with R f es ds ≡ merge_with R f ds es
  with-comm = two_lists Swaps (λ ds _. sym (with-right_empty R f ds)) (λ es _. with-right_empty R f es) swaps_step

  -- A merge of a list with itself is the list.
  pub with-idem : (es : List (K × X)) → EachPair (λ k v. f v v ≡ v) es → merge_with R f es es ≡ es
  with-idem [] each = refl
  with-idem (e ∷ es) each = with-equal R f e e es es (tied_itself total e.0) ∙ (λ i. (e.0, each.0 i) ∷ with-idem es each.1 i)

  abbrev Regroups : List (K × X) → List (K × X) → List (K × X) → Type 0
  Regroups es ds gs = ((k j i : K) (v w u : X) → IsAt k v es → IsAt j w ds → IsAt i u gs → R k j ≡ Equal → R j i ≡ Equal → f (f v w) u ≡ f v (f w u))
      → merge_with R f (merge_with R f es ds) gs ≡ merge_with R f es (merge_with R f ds gs)

-- The steps of associativity. The merge is a variable here, known by its equations alone.
record Steps {K X : Type 0} (R : K → K → Ordering) (f : X → X → X) (m : List (K × X) → List (K × X) → List (K × X)) : Type 0 where
  less : (e d : K × X) (es ds : List (K × X)) → R e.0 d.0 ≡ Less → m (e ∷ es) (d ∷ ds) ≡ e ∷ m es (d ∷ ds)
  equal : (e d : K × X) (es ds : List (K × X)) → R e.0 d.0 ≡ Equal → m (e ∷ es) (d ∷ ds) ≡ (e.0, f e.1 d.1) ∷ m es ds
  greater : (e d : K × X) (es ds : List (K × X)) → R e.0 d.0 ≡ Greater → m (e ∷ es) (d ∷ ds) ≡ d ∷ m (e ∷ es) ds

module _ {K X : Type 0} (R : K → K → Ordering) (total : IsTotalOrder R) (f : X → X → X) (m : List (K × X) → List (K × X) → List (K × X)) (steps : Steps R f m) where
  -- Three lists with a head each: the two groupings agree where they do once the least heads are taken.
  regroup_step : (e d g : K × X) (es ds gs : List (K × X))
      → m (m es (d ∷ ds)) (g ∷ gs) ≡ m es (m (d ∷ ds) (g ∷ gs)) → m (m es (d ∷ ds)) gs ≡ m es (m (d ∷ ds) gs) → m (m es ds) (g ∷ gs) ≡ m es (m ds (g ∷ gs)) → m (m es ds) gs ≡ m es (m ds gs)
      → m (m (e ∷ es) ds) (g ∷ gs) ≡ m (e ∷ es) (m ds (g ∷ gs)) → m (m (e ∷ es) ds) gs ≡ m (e ∷ es) (m ds gs) → m (m (e ∷ es) (d ∷ ds)) gs ≡ m (e ∷ es) (m (d ∷ ds) gs)
      → (R e.0 d.0 ≡ Equal → R d.0 g.0 ≡ Equal → f (f e.1 d.1) g.1 ≡ f e.1 (f d.1 g.1))
      → m (m (e ∷ es) (d ∷ ds)) (g ∷ gs) ≡ m (e ∷ es) (m (d ∷ ds) (g ∷ gs))
  regroup_step e d g es ds gs ih_e ih_eg ih_ed ih_edg ih_d ih_dg ih_g values = by (R e.0 d.0) refl (R d.0 g.0) refl
    where
      last : (r : Ordering) → R e.0 g.0 ≡ r → R e.0 d.0 ≡ Less → R d.0 g.0 ≡ Greater → m (m (e ∷ es) (d ∷ ds)) (g ∷ gs) ≡ m (e ∷ es) (m (d ∷ ds) (g ∷ gs))
      last Less h p q =
          let a = steps.less e d es ds p in
          let b = steps.less e g (m es (d ∷ ds)) gs h in
          let c = steps.greater d g ds gs q in
          let k = steps.less e g es (m (d ∷ ds) gs) h in
          cc
      last Equal h p q =
          let a = steps.less e d es ds p in
          let b = steps.equal e g (m es (d ∷ ds)) gs h in
          let c = steps.greater d g ds gs q in
          let k = steps.equal e g es (m (d ∷ ds) gs) h in
          cc
      last Greater h p q =
          let a = steps.less e d es ds p in
          let b = steps.greater e g (m es (d ∷ ds)) gs h in
          let c = steps.greater d g ds gs q in
          let k = steps.greater e g es (m (d ∷ ds) gs) h in
          cc

      by : (r : Ordering) → R e.0 d.0 ≡ r → (s : Ordering) → R d.0 g.0 ≡ s → m (m (e ∷ es) (d ∷ ds)) (g ∷ gs) ≡ m (e ∷ es) (m (d ∷ ds) (g ∷ gs))
      by Less p Less q =
          let h : R e.0 g.0 ≡ Less = total.trans e.0 d.0 g.0 p q in
          let a = steps.less e d es ds p in
          let b = steps.less e g (m es (d ∷ ds)) gs h in
          let c = steps.less d g ds gs q in
          let k = steps.less e d es (m ds (g ∷ gs)) p in
          cc
      by Less p Equal q =
          let h : R e.0 g.0 ≡ Less = sym (alike_right total d.0 g.0 e.0 q) ∙ p in
          let a = steps.less e d es ds p in
          let b = steps.less e g (m es (d ∷ ds)) gs h in
          let c = steps.equal d g ds gs q in
          let k = steps.less e (d.0, f d.1 g.1) es (m ds gs) p in
          cc
      by Less p Greater q = last (R e.0 g.0) refl p q
      by Equal p Less q =
          let h : R e.0 g.0 ≡ Less = total.congr e.0 d.0 g.0 p ∙ q in
          let a = steps.equal e d es ds p in
          let b = steps.less (e.0, f e.1 d.1) g (m es ds) gs h in
          let c = steps.less d g ds gs q in
          let k = steps.equal e d es (m ds (g ∷ gs)) p in
          cc
      by Equal p Equal q =
          let h : R e.0 g.0 ≡ Equal = total.congr e.0 d.0 g.0 p ∙ q in
          let a = steps.equal e d es ds p in
          let b = steps.equal (e.0, f e.1 d.1) g (m es ds) gs h in
          let c = steps.equal d g ds gs q in
          let k = steps.equal e (d.0, f d.1 g.1) es (m ds gs) p in
          let v = values p q in
          cc
      by Equal p Greater q =
          let h : R e.0 g.0 ≡ Greater = total.congr e.0 d.0 g.0 p ∙ q in
          let a = steps.equal e d es ds p in
          let b = steps.greater (e.0, f e.1 d.1) g (m es ds) gs h in
          let c = steps.greater d g ds gs q in
          let k = steps.greater e g es (m (d ∷ ds) gs) h in
          cc
      by Greater p Less q =
          let a = steps.greater e d es ds p in
          let b = steps.less d g (m (e ∷ es) ds) gs q in
          let c = steps.less d g ds gs q in
          let k = steps.greater e d es (m ds (g ∷ gs)) p in
          cc
      by Greater p Equal q =
          let a = steps.greater e d es ds p in
          let b = steps.equal d g (m (e ∷ es) ds) gs q in
          let c = steps.equal d g ds gs q in
          let k = steps.greater e (d.0, f d.1 g.1) es (m ds gs) p in
          cc
      by Greater p Greater q =
          let h : R e.0 g.0 ≡ Greater = total.antisymm e.0 g.0 ∙ ap ordering_reverse (total.trans g.0 d.0 e.0 (less_back R total f d.0 g.0 q) (less_back R total f e.0 d.0 p)) in
          let a = steps.greater e d es ds p in
          let b = steps.greater d g (m (e ∷ es) ds) gs q in
          let c = steps.greater d g ds gs q in
          let k = steps.greater e g es (m (d ∷ ds) gs) h in
          cc

module _ {K X : Type 0} (R : K → K → Ordering) (total : IsTotalOrder R) (f : X → X → X) where
  steps : Steps R f (merge_with R f)
  steps = record { less = with-less R f; equal = with-equal R f; greater = with-greater R f }

  -- Three lists can be merged in either grouping.
  pub with-assoc : (es ds gs : List (K × X)) → ((k j i : K) (v w u : X) → IsAt k v es → IsAt j w ds → IsAt i u gs → R k j ≡ Equal → R j i ≡ Equal → f (f v w) u ≡ f v (f w u))
      → merge_with R f (merge_with R f es ds) gs ≡ merge_with R f es (merge_with R f ds gs)
  with-assoc [] ds gs values = refl
  with-assoc (e ∷ es) ds gs values = second (with-assoc es) ds gs values
    where
      third : ((ds gs : List (K × X)) → Regroups R total f es ds gs) → (d : K × X) (ds : List (K × X)) → ((gs : List (K × X)) → Regroups R total f (e ∷ es) ds gs) → (gs : List (K × X)) → Regroups R total f (e ∷ es) (d ∷ ds) gs
      third one d ds two [] values = with-right_empty R f (merge_with R f (e ∷ es) (d ∷ ds))
      third one d ds two (g ∷ gs) values =
          regroup_step R total f (merge_with R f) (steps) e d g es ds gs
          (one (d ∷ ds) (g ∷ gs) (λ k j i v w u p q r. values k j i v w u (inr p) q r))
          (one (d ∷ ds) gs (λ k j i v w u p q r. values k j i v w u (inr p) q (inr r)))
          (one ds (g ∷ gs) (λ k j i v w u p q r. values k j i v w u (inr p) (inr q) r))
          (one ds gs (λ k j i v w u p q r. values k j i v w u (inr p) (inr q) (inr r)))
          (two (g ∷ gs) (λ k j i v w u p q r. values k j i v w u p (inr q) r))
          (two gs (λ k j i v w u p q r. values k j i v w u p (inr q) (inr r)))
          (third one d ds two gs (λ k j i v w u p q r. values k j i v w u p q (inr r)))
          (values e.0 d.0 g.0 e.1 d.1 g.1 (inl (refl, refl)) (inl (refl, refl)) (inl (refl, refl)))

      second : ((ds gs : List (K × X)) → Regroups R total f es ds gs) → (ds gs : List (K × X)) → Regroups R total f (e ∷ es) ds gs
      second one [] gs values = refl
      second one (d ∷ ds) gs values = third one d ds (second one ds) gs values

-- a pair made of a pair of each list, whose keys tie
pub record IsMade {K X : Type 0} (R : K → K → Ordering) (f : X → X → X) (k : K) (v : X) (es ds : List (K × X)) : Type 0 where
  pub other : K
  pub first : X
  pub second : X
  pub in_first : IsAt k first es
  pub in_second : IsAt other second ds
  pub tied : R k other ≡ Equal
  pub made : v ≡ f first second

module _ {K X : Type 0} (R : K → K → Ordering) (f : X → X → X) where
  -- where a pair of a merge comes from
  abbrev pub From : List (K × X) → List (K × X) → K → X → Type 0
  From es ds k v = IsAt k v es ⊎ (IsAt k v ds ⊎ IsMade R f k v es ds)

  first_longer : (e : K × X) (es ds : List (K × X)) (k : K) (v : X) → From es ds k v → From (e ∷ es) ds k v
  first_longer e es ds k v (inl p) = inl (inr p)
  first_longer e es ds k v (inr (inl p)) = inr (inl p)
  first_longer e es ds k v (inr (inr p)) = inr (inr (record { other = p.other; first = p.first; second = p.second; in_first = inr p.in_first; in_second = p.in_second; tied = p.tied; made = p.made }))

  second_longer : (d : K × X) (es ds : List (K × X)) (k : K) (v : X) → From es ds k v → From es (d ∷ ds) k v
  second_longer d es ds k v (inl p) = inl p
  second_longer d es ds k v (inr (inl p)) = inr (inl (inr p))
  second_longer d es ds k v (inr (inr p)) = inr (inr (record { other = p.other; first = p.first; second = p.second; in_first = p.in_first; in_second = inr p.in_second; tied = p.tied; made = p.made }))

  abbrev Comes : List (K × X) → List (K × X) → Type 0
  Comes es ds = (k : K) (v : X) → IsAt k v (merge_with R f es ds) → From es ds k v

  comes_step : (e d : K × X) (es ds : List (K × X)) → Comes es (d ∷ ds) → Comes es ds → Comes (e ∷ es) ds → Comes (e ∷ es) (d ∷ ds)
  comes_step e d es ds less both more k v at = by (R e.0 d.0) refl
    where
      is_less : R e.0 d.0 ≡ Less → IsAt k v (e ∷ merge_with R f es (d ∷ ds)) → From (e ∷ es) (d ∷ ds) k v
      is_less h (inl p) = inl (inl p)
      is_less h (inr p) = first_longer e es (d ∷ ds) k v (less k v p)

      is_equal : R e.0 d.0 ≡ Equal → IsAt k v ((e.0, f e.1 d.1) ∷ merge_with R f es ds) → From (e ∷ es) (d ∷ ds) k v
      is_equal h (inl p) = inr (inr (record { other = d.0; first = e.1; second = d.1; in_first = inl (p.0, refl); in_second = inl (refl, refl); tied = rw p.0 h; made = p.1 }))
      is_equal h (inr p) = first_longer e es (d ∷ ds) k v (second_longer d es ds k v (both k v p))

      is_greater : R e.0 d.0 ≡ Greater → IsAt k v (d ∷ merge_with R f (e ∷ es) ds) → From (e ∷ es) (d ∷ ds) k v
      is_greater h (inl p) = inr (inl (inl p))
      is_greater h (inr p) = second_longer d (e ∷ es) ds k v (more k v p)

      by : (r : Ordering) → R e.0 d.0 ≡ r → From (e ∷ es) (d ∷ ds) k v
      by Less h = is_less h (subst (IsAt k v) (with-less R f e d es ds h) at)
      by Equal h = is_equal h (subst (IsAt k v) (with-equal R f e d es ds h) at)
      by Greater h = is_greater h (subst (IsAt k v) (with-greater R f e d es ds h) at)

  -- A pair of a merge is a pair of one of the lists, or made of a pair of each.
  pub with-from : (es ds : List (K × X)) (k : K) (v : X) → IsAt k v (merge_with R f es ds) → From es ds k v
  with-from = two_lists Comes (λ ds k v p. inr (inl p)) (λ es k v p. inl (subst (IsAt k v) (with-right_empty R f es) p)) comes_step

  abbrev HasKeys : List (K × X) → List (K × X) → Type 0
  HasKeys es ds = keys_of (merge_with R f es ds) ≡ greedy_merge R (keys_of es) (keys_of ds)

  keys_step : (e d : K × X) (es ds : List (K × X)) → HasKeys es (d ∷ ds) → HasKeys es ds → HasKeys (e ∷ es) ds → HasKeys (e ∷ es) (d ∷ ds)
  keys_step e d es ds less both more = by (R e.0 d.0) refl
    where
      by : (r : Ordering) → R e.0 d.0 ≡ r → HasKeys (e ∷ es) (d ∷ ds)
      by Less h = ap keys_of (with-less R f e d es ds h) ∙ ap (λ l. e.0 ∷ l) less ∙ sym (greedy-less R e.0 d.0 (keys_of es) (keys_of ds) h)
      by Equal h = ap keys_of (with-equal R f e d es ds h) ∙ ap (λ l. e.0 ∷ l) both ∙ sym (greedy-equal R e.0 d.0 (keys_of es) (keys_of ds) h)
      by Greater h = ap keys_of (with-greater R f e d es ds h) ∙ ap (λ l. d.0 ∷ l) more ∙ sym (greedy-greater R e.0 d.0 (keys_of es) (keys_of ds) h)

  -- The keys of a merge are the merge of the keys.
  pub keys_of-merge_with : (es ds : List (K × X)) → keys_of (merge_with R f es ds) ≡ greedy_merge R (keys_of es) (keys_of ds)
  keys_of-merge_with = two_lists HasKeys (λ ds. refl) (λ es. ap keys_of (with-right_empty R f es) ∙ sym (greedy-right_empty R (keys_of es))) keys_step

module _ {K X : Type 0} (P : K → X → Type 0) where
  -- What holds of each pair holds of one.
  pub EachPair-at : (es : List (K × X)) (k : K) (v : X) → EachPair P es → IsAt k v es → P k v
  EachPair-at [] k v each none = elim none [ ]
  EachPair-at (e ∷ es) k v each (inl at) = let Q : K → Type 0 = λ j. P j v in subst Q (sym at.0) (subst (P e.0) (sym at.1) each.0)
  EachPair-at (e ∷ es) k v each (inr at) = EachPair-at es k v each.1 at

  -- What holds of any one pair holds of each.
  pub EachPair-from : (es : List (K × X)) → ((k : K) (v : X) → IsAt k v es → P k v) → EachPair P es
  EachPair-from [] any = tt
  EachPair-from (e ∷ es) any = (any e.0 e.1 (inl (refl, refl)), EachPair-from es (λ k v at. any k v (inr at)))

module _ {K X : Type 0} where
  -- The key of a pair is one of the keys.
  pub IsIn-keys_of : (es : List (K × X)) (k : K) (v : X) → IsAt k v es → IsIn k (keys_of es)
  IsIn-keys_of [] k v none = elim none [ ]
  IsIn-keys_of (e ∷ es) k v (inl at) = inl at.0
  IsIn-keys_of (e ∷ es) k v (inr at) = inr (IsIn-keys_of es k v at)

  -- Where the keys rise, a key has one value.
  pub IsAt-unique : (R : K → K → Ordering) → IsTotalOrder R → (es : List (K × X)) (k : K) (v w : X) → Rises R (keys_of es) → IsAt k v es → IsAt k w es → v ≡ w
  IsAt-unique R total [] k v w rises none at = elim none [ ]
  IsAt-unique R total (e ∷ es) k v w rises (inl at) (inl also) = at.1 ∙ sym also.1
  IsAt-unique R total (e ∷ es) k v w rises (inl at) (inr also) = absurd (not_behind R total e.0 (keys_of es) k rises at.0 (IsIn-keys_of es k w also))
  IsAt-unique R total (e ∷ es) k v w rises (inr at) (inl also) = absurd (not_behind R total e.0 (keys_of es) k rises also.0 (IsIn-keys_of es k v at))
  IsAt-unique R total (e ∷ es) k v w rises (inr at) (inr also) = IsAt-unique R total es k v w (Rises-tail R e.0 (keys_of es) rises) at also
