-- Turns, and rows of steps by their turns.
use Rattle.std.proofs.Common.{◌≡◌, ◌⊎◌, inl, inr, ℕ, zero, suc, ◌+◌, ◌*◌, ◌<◌, ◌≤◌, List, [], ◌∷◌, ◌++◌, length, get_or, set, All, sym, ap, ◌∙◌, subst, length-append, arith}
use Rattle.std.proofs.lemmas.Bool.{cases_eq, cases_lt}
use Rattle.std.proofs.lemmas.List.{get_or_append_left, get_or_at, get_or-set_same, get_or-set_other}
use Rattle.std.proofs.lemmas.Option.{slice_get_within}
use Rattle.context_model.specs.Orders.{IsIn}
use Rattle.trace_model.specs.Graphs.{Step, Graph, parents_of, HasStep, IsGraph}
use Rattle.trace_model.proofs.ReachLaws.{one_step}
use Rattle.recorded_graph.proofs.Parents.{at_in}
use Rattle.bag_model.proofs.Finite.{in_append, in_append_first, in_append_second}
use Rattle.par_ranks.specs.Turns.{AreTurns, AreRows, IsPlan, row_at}

-- ---- turns

pub no_turns : (graph : Graph) → AreTurns graph []
no_turns graph = record {
  low = λ n l. absurd (omega (arith, l));
  later = λ n parent step l has i. absurd (omega (arith, l));
}

module _ (graph : Graph) (turns : List ℕ) (turn : ℕ) where
  old_turn : (n : ℕ) → n < length turns → get_or turns n 0 ≡ get_or (turns ++ turn ∷ []) n 0
  old_turn n l = sym (get_or_append_left turns (turn ∷ []) 0 n l)

  own_turn : (n : ℕ) → length turns ≡ n → turn ≡ get_or (turns ++ turn ∷ []) n 0
  own_turn n e = sym (get_or_at turns turn [] 0 n e)

  upto : (n : ℕ) → n < length (turns ++ turn ∷ []) → n < length turns ⊎ (length turns ≡ n)
  upto n l = by (cases_lt n (length turns))
    where
      by : (n < length turns) ⊎ (length turns ≤ n) → n < length turns ⊎ (length turns ≡ n)
      by (inl less) = inl less
      by (inr more) = inr (let e = length-append turns (turn ∷ []) in omega (arith, e, l, more))

  -- One turn more.
  pub turns_more : IsGraph graph → (own : Step) (places : List ℕ) → AreTurns graph turns → HasStep graph (length turns) own → places ≡ parents_of own.act
      → turn ≤ 2 * length turns + 1 → All (λ parent. get_or turns parent 0 < turn) places → AreTurns graph (turns ++ turn ∷ [])
  turns_more sound own places are there same low later = record {
    low = λ n l. low_at n (upto n l);
    later = λ n parent step l has i. later_at n parent step has i (upto n l);
  }
    where
      low_at : (n : ℕ) → n < length turns ⊎ (length turns ≡ n) → get_or (turns ++ turn ∷ []) n 0 ≤ 2 * n + 1
      low_at n (inl l) = subst (λ (t : ℕ). t ≤ 2 * n + 1) (old_turn n l) (are.low n l)
      low_at n (inr e) = subst (λ (t : ℕ). t ≤ 2 * n + 1) (own_turn n e) (subst (λ (m : ℕ). turn ≤ 2 * m + 1) e low)

      later_at : (n parent : ℕ) (step : Step) → HasStep graph n step → IsIn parent (parents_of step.act) → n < length turns ⊎ (length turns ≡ n)
          → get_or (turns ++ turn ∷ []) parent 0 < get_or (turns ++ turn ∷ []) n 0
      later_at n parent step has i (inl l) =
          let before : parent < n = sound.earlier n parent step has i in
          subst (λ (t : ℕ). t < get_or (turns ++ turn ∷ []) n 0) (old_turn parent (omega (arith, before, l)))
          (subst (λ (t : ℕ). get_or turns parent 0 < t) (old_turn n l) (are.later n parent step l has i))
      later_at n parent step has i (inr e) =
          let before : parent < n = sound.earlier n parent step has i in
          let one : step ≡ own = one_step graph n step own has (subst (λ (m : ℕ). HasStep graph m own) e there) in
          let named : IsIn parent places = subst (λ (ps : List ℕ). IsIn parent ps) (ap (λ (s : Step). parents_of s.act) one ∙ sym same) i in
          subst (λ (t : ℕ). t < get_or (turns ++ turn ∷ []) n 0) (old_turn parent (let b = before in omega (arith, b, e)))
          (subst (λ (t : ℕ). get_or turns parent 0 < t) (own_turn n e) (at_in (λ (p : ℕ). get_or turns p 0 < turn) places (λ k l. later k 0 l) parent named))

-- ---- rows

-- Where a row holds a step, there is such a row.
pub row_within : (rows : List (List ℕ)) (turn n : ℕ) → IsIn n (row_at rows turn) → turn < length rows
row_within [] turn n none = absurd none
row_within (row ∷ rows) zero n i = omega arith
row_within (row ∷ rows) (suc turn) n i = let l = row_within rows turn n i in omega (arith, l)

module _ (turns : List ℕ) (m : ℕ) (rows : List (List ℕ)) (here : get_or turns m 0 < length rows) where
  abbrev turn : ℕ
  turn = get_or turns m 0

  abbrev longer : List (List ℕ)
  longer = set rows turn (row_at rows turn ++ m ∷ [])

  its_row : row_at longer turn ≡ row_at rows turn ++ m ∷ []
  its_row = get_or-set_same rows turn (row_at rows turn ++ m ∷ []) [] here

  other_row : (t : ℕ) → (t ≡ turn → ⊥) → row_at longer t ≡ row_at rows t
  other_row t differs = get_or-set_other rows turn t (row_at rows turn ++ m ∷ []) [] differs

  -- The next step is in the row of its turn.
  pub rows_more : AreRows turns m rows → AreRows turns (m + 1) longer
  rows_more are = record { own = λ t n i. own_at t n i (cases_eq t turn); each = λ n l. each_at n l (cases_eq (get_or turns n 0) turn) (cases_lt n m) }
    where
      pushed : (n : ℕ) → IsIn n (row_at rows turn) ⊎ IsIn n (m ∷ []) → (n < m + 1) × (get_or turns n 0 ≡ turn)
      pushed n (inl i) = let o = are.own turn n i in (let l = o.0 in omega (arith, l), o.1)
      pushed n (inr (inl e)) = (omega (arith, e), ap (λ (k : ℕ). get_or turns k 0) e)
      pushed n (inr (inr none)) = absurd none

      own_at : (t n : ℕ) → IsIn n (row_at longer t) → (t ≡ turn) ⊎ (t ≡ turn → ⊥) → (n < m + 1) × (get_or turns n 0 ≡ t)
      own_at t n i (inl e) =
          let there : IsIn n (row_at rows turn ++ m ∷ []) = subst (λ (row : List ℕ). IsIn n row) (ap (row_at longer) e ∙ its_row) i in
          let o = pushed n (in_append n (row_at rows turn) (m ∷ []) there) in
          (o.0, o.1 ∙ sym e)
      own_at t n i (inr differs) =
          let o = are.own t n (subst (λ (row : List ℕ). IsIn n row) (other_row t differs) i) in
          (let l = o.0 in omega (arith, l), o.1)

      each_at : (n : ℕ) → n < m + 1 → (get_or turns n 0 ≡ turn) ⊎ (get_or turns n 0 ≡ turn → ⊥) → (n < m) ⊎ (m ≤ n) → IsIn n (row_at longer (get_or turns n 0))
      each_at n l (inl e) (inl less) =
          subst (λ (row : List ℕ). IsIn n row) (sym (ap (row_at longer) e ∙ its_row))
          (in_append_first n (row_at rows turn) (m ∷ []) (subst (λ (t : ℕ). IsIn n (row_at rows t)) e (are.each n less)))
      each_at n l (inl e) (inr more) =
          let last : n ≡ m = omega (arith, l, more) in
          subst (λ (row : List ℕ). IsIn n row) (sym (ap (row_at longer) e ∙ its_row)) (in_append_second n (row_at rows turn) (m ∷ []) (inl last))
      each_at n l (inr differs) (inl less) = subst (λ (row : List ℕ). IsIn n row) (sym (other_row (get_or turns n 0) differs)) (are.each n less)
      each_at n l (inr differs) (inr more) =
          let last : n ≡ m = omega (arith, l, more) in
          absurd (differs (ap (λ (k : ℕ). get_or turns k 0) last))

-- Rows by turns make a plan.
pub planned : (graph : Graph) (turns : List ℕ) (rows : List (List ℕ)) → length turns ≡ length graph.steps → AreTurns graph turns → AreRows turns (length turns) rows
    → IsPlan graph rows
planned graph turns rows many are rowed = record {
  turn_of = λ n. get_or turns n 0;
  own = λ turn n i. let o = rowed.own turn n i in (subst (λ (k : ℕ). n < k) many o.0, o.1);
  each = λ n l. rowed.each n (subst (λ (k : ℕ). n < k) (sym many) l);
  later = λ n parent step has i. are.later n parent step (subst (λ (k : ℕ). n < k) (sym many) (slice_get_within graph.steps n step has)) has i;
}
