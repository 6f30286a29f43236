-- Rows of children.
use Rattle.std.proofs.Common.{◌≡◌, ◌≢◌, ◌⊎◌, ◌↔◌, inl, inr, ℕ, zero, suc, ◌+◌, ◌<◌, ◌≤◌, ◌==◌, Bool, List, [], ◌∷◌, ◌++◌, length, take, get_or, set, IsTrue, nat_lt, ltb-true, refl, sym, ap, ◌∙◌, subst, add-one, arith, length-set, get_or-set_same, get_or-set_other}
use Rattle.std.specs.List.{list_any}
use Rattle.std.proofs.lemmas.Option.{slice_get_within}
use Rattle.context_model.specs.Orders.{IsIn}
use Rattle.trace_model.specs.Graphs.{Step, Graph, HasStep, parents_of, IsGraph}
use Rattle.trace_model.proofs.ReachLaws.{one_step}
use Rattle.write_proof.specs.ChildRows.{AreAdded, AreRowsTo, child_row_at}
use Rattle.write_proof.specs.LineRules.{HasParent}
use Rattle.write_proof.proofs.Decided.{same_number}
use Rattle.write_proof.proofs.Looking.{any_is_in}
use Rattle.write_proof.proofs.Reached.{in_push, push_before, push_last, taken_in, in_taken}

-- ---- a child that is added

pub added_none : (child : ℕ) (start : List (List ℕ)) → AreAdded [] child start start
added_none child start = record { as_many = refl; each = λ w c. ((λ i. inl i), λ t. elim t [ inl i ↦ i | inr p ↦ absurd p.1 ]) }

-- The child is added to the row of one more parent.
module _ (child : ℕ) (start now : List (List ℕ)) (ks : List ℕ) (i : ℕ) (less : i < length ks) (within : get_or ks i 0 < length now) (are : AreAdded (take i ks) child start now) where
  abbrev k : ℕ
  k = get_or ks i 0

  abbrev next : List (List ℕ)
  next = set now k (child_row_at now k ++ child ∷ [])

  abbrev Fits : ℕ → ℕ → Type 0
  Fits w c = IsIn c (child_row_at next w) ↔ (IsIn c (child_row_at start w) ⊎ ((c ≡ child) × IsIn w (take (suc i) ks)))

  own_row : child_row_at next k ≡ child_row_at now k ++ child ∷ []
  own_row = get_or-set_same now k (child_row_at now k ++ child ∷ []) [] within

  other_row : (w : ℕ) → w ≢ k → child_row_at next w ≡ child_row_at now w
  other_row w differs = get_or-set_other now k w (child_row_at now k ++ child ∷ []) [] differs

  in_own : (c : ℕ) → Fits k c
  in_own c = (there, back)
    where
      there : IsIn c (child_row_at next k) → IsIn c (child_row_at start k) ⊎ ((c ≡ child) × IsIn k (take (suc i) ks))
      there j = elim (in_push c child (child_row_at now k) (subst (IsIn c) own_row j)) [
        | inl before ↦ elim ((are.each k c).0 before) [ inl old ↦ inl old | inr p ↦ inr (p.0, in_taken i ks k k less refl (inl p.1)) ]
        | inr same ↦ inr (same, in_taken i ks k k less refl (inr refl))
      ]

      back : IsIn c (child_row_at start k) ⊎ ((c ≡ child) × IsIn k (take (suc i) ks)) → IsIn c (child_row_at next k)
      back (inl old) = subst (IsIn c) (sym own_row) (push_before c child (child_row_at now k) ((are.each k c).1 (inl old)))
      back (inr p) = subst (IsIn c) (sym own_row) (push_last c child (child_row_at now k) p.0)

  in_other : (w c : ℕ) → w ≢ k → Fits w c
  in_other w c differs = (there, back)
    where
      there : IsIn c (child_row_at next w) → IsIn c (child_row_at start w) ⊎ ((c ≡ child) × IsIn w (take (suc i) ks))
      there j = elim ((are.each w c).0 (subst (IsIn c) (other_row w differs) j)) [ inl old ↦ inl old | inr p ↦ inr (p.0, in_taken i ks w k less refl (inl p.1)) ]

      back : IsIn c (child_row_at start w) ⊎ ((c ≡ child) × IsIn w (take (suc i) ks)) → IsIn c (child_row_at next w)
      back (inl old) = subst (IsIn c) (sym (other_row w differs)) ((are.each w c).1 (inl old))
      back (inr p) = elim (taken_in i ks w k less refl p.1) [
        | inl j ↦ subst (IsIn c) (sym (other_row w differs)) ((are.each w c).1 (inr (p.0, j)))
        | inr same ↦ absurd (differs same)
      ]

  pub added_more : AreAdded (take (i + 1) ks) child start next
  added_more = subst (λ j. AreAdded (take j ks) child start next) (sym (add-one i)) (record {
    as_many = length-set now k (child_row_at now k ++ child ∷ []) ∙ are.as_many;
    each = λ w c. elim (same_number w k) [ inl e ↦ subst (λ v. Fits v c) (sym e) (in_own c) | inr differs ↦ in_other w c differs ];
  })

-- ---- the children of one step after another

pub rows_none : (graph : Graph) (rows : List (List ℕ)) → length rows ≡ length graph.steps → ((w : ℕ) → child_row_at rows w ≡ []) → AreRowsTo graph 0 rows
rows_none graph rows many empty = record {
  as_many = many;
  each = λ w c. ((λ i. absurd (subst (IsIn c) (empty w) i)), λ p. let less = p.0 in absurd (omega (arith, less)));
}

pub parents_in_rows : (graph : Graph) (sound : IsGraph graph) (m : ℕ) (step : Step) (parents : List ℕ) (rows : List (List ℕ)) → m < length graph.steps → HasStep graph m step → parents ≡ parents_of step.act → AreRowsTo graph m rows
    → (w : ℕ) → IsIn w parents → w < length rows
parents_in_rows graph sound m step parents rows within has named are w i =
    let earlier = sound.earlier m w step has (subst (IsIn w) named i) in
    let many = are.as_many in
    omega (arith, earlier, within, many)

pub rows_more : (graph : Graph) (m : ℕ) (step : Step) (parents : List ℕ) (rows next : List (List ℕ)) → HasStep graph m step → parents ≡ parents_of step.act → AreRowsTo graph m rows → AreAdded parents m rows next
    → AreRowsTo graph (m + 1) next
rows_more graph m step parents rows next has named are added = record { as_many = added.as_many ∙ are.as_many; each = λ w c. (there w c, back w c) }
  where
    there : (w c : ℕ) → IsIn c (child_row_at next w) → (c < m + 1) × HasParent graph c w
    there w c i = elim ((added.each w c).0 i) [
      | inl old ↦ (let own = (are.each w c).0 old in let less = own.0 in (omega (arith, less), own.1))
      | inr new ↦ (let same = new.0 in (omega (arith, same), subst (λ n. HasParent graph n w) (sym same) (step, has, subst (IsIn w) named new.1)))
    ]

    own_parent : (w : ℕ) → HasParent graph m w → IsIn w parents
    own_parent w p = subst (IsIn w) (ap (λ (s : Step). parents_of s.act) (one_step graph m p.0 step p.1 has) ∙ sym named) p.2

    back : (w c : ℕ) → (c < m + 1) × HasParent graph c w → IsIn c (child_row_at next w)
    back w c p = (added.each w c).1 (elim (same_number c m) [
      | inl same ↦ inr (same, own_parent w (subst (λ n. HasParent graph n w) same p.1))
      | inr differs ↦ inl ((are.each w c).1 (let less = p.0 in omega (arith, less, differs), p.1))
    ])

-- ---- a child that is looked for

-- After the last row there is none.
none_behind : (rows : List (List ℕ)) (w : ℕ) → length rows ≤ w → child_row_at rows w ≡ []
none_behind [] w l = refl
none_behind (row ∷ rows) zero l = absurd (omega (arith, l))
none_behind (row ∷ rows) (suc w) l = none_behind rows w (omega (arith, l))

module _ (graph : Graph) (rows : List (List ℕ)) (are : AreRowsTo graph (length graph.steps) rows) where
  -- A child is in the row of its parent.
  pub child_there : (child w : ℕ) (row : List ℕ) (found : Bool) → row ≡ child_row_at rows w → found ≡ list_any (λ y. y == child) row → IsTrue found ↔ HasParent graph child w
  child_there child w row found own is = (
    (λ t. ((are.each w child).0 (subst (IsIn child) own ((any_is_in child row).0 (sym is ∙ t)))).1),
    λ p. is ∙ (any_is_in child row).1 (subst (IsIn child) (sym own) ((are.each w child).1 (step_within p, p))),
  )
    where
      step_within : HasParent graph child w → child < length graph.steps
      step_within p = slice_get_within graph.steps child p.0 p.1

  -- A step that is none of the graph has no child.
  pub no_row : (child w n : ℕ) → n ≡ length graph.steps → n ≤ w → IsTrue (nat_lt w n) ↔ HasParent graph child w
  no_row child w n is late = (
    (λ t. let less : w < n = ltb-true w n t in absurd (omega (arith, less, late))),
    λ p. let many = are.as_many in absurd (subst (IsIn child) (none_behind rows w (omega (arith, many, is, late))) ((are.each w child).1 (slice_get_within graph.steps child p.0 p.1, p))),
  )
