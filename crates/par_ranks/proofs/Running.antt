-- Rows that are run one after another.
use Rattle.std.proofs.Common.{◌≡◌, ◌⊎◌, inl, inr, ℕ, ◌+◌, ◌<◌, ◌≤◌, List, [], length, get_or, set, All, refl, sym, ap, ◌∙◌, subst, arith}
use Rattle.std.proofs.lemmas.Bool.{cases_eq, cases_lt}
use Rattle.std.proofs.lemmas.List.{get_or-set_same, get_or-set_other, get_or_default, length-set}
use Rattle.context_model.specs.Atoms.{Atom}
use Rattle.context_model.specs.Orders.{IsIn}
use Rattle.bag_model.specs.Shapes.{Nodes}
use Rattle.trace_model.specs.Graphs.{Graph}
use Rattle.trace_model.specs.Runs.{Lists, list_at, IsRun}
use Rattle.recorded_graph.proofs.Parents.{in_at}
use Rattle.par_ranks.specs.Turns.{IsPlan, row_at}
use Rattle.par_ranks.specs.Rows.{IsGiven, AreIndependent, AreMade, ArePut, IsRowRun}
use Rattle.par_ranks.proofs.Giving.{given_moved}
use Rattle.par_ranks.proofs.Turning.{row_within}
use Rattle.par_ranks.proofs.Putting.{place_in}

-- The steps of a row are steps of the graph, by their places.
pub row_steps : (graph : Graph) (row : List ℕ) (count : ℕ) → AreIndependent graph row → count ≡ length graph.steps → All (λ step. step < count) row
row_steps graph row count is many k d l =
    subst (λ (step : ℕ). step < count) (get_or_default row k 0 d l)
    (subst (λ (c : ℕ). get_or row k 0 < c) (sym many) (is.within (get_or row k 0) (in_at row k l)))

-- ---- a row in turn

-- The steps of a row before place k were run.
pub record AreRunTo (nodes : Nodes) (graph : Graph) (row : List ℕ) (k : ℕ) (old new : Lists) : Type 0 where
  pub as_many : length new ≡ length old
  pub given : (j : ℕ) → j < k → IsGiven nodes graph new (get_or row j 0) (list_at new (get_or row j 0))
  pub kept : (n : ℕ) → ¬ (IsIn n row) → list_at new n ≡ list_at old n

-- One step more.
pub one_run : (nodes : Nodes) (graph : Graph) (row : List ℕ) (k : ℕ) (old lists : Lists) (step : ℕ) (list : List Atom) → AreIndependent graph row → k < length row → step ≡ get_or row k 0 → step < length lists
    → IsGiven nodes graph lists step list → AreRunTo nodes graph row k old lists → AreRunTo nodes graph row (k + 1) old (set lists step list)
one_run nodes graph row k old lists step list is here same within gives are = record {
  as_many = length-set lists step list ∙ are.as_many;
  given = λ j l. at j (cases_lt j k) l (cases_eq (get_or row j 0) step);
  kept = λ n out. moved n (λ e. out (subst (λ (p : ℕ). IsIn p row) (sym e) there)) ∙ are.kept n out;
}
  where
    there : IsIn step row
    there = subst (λ (p : ℕ). IsIn p row) (sym same) (in_at row k here)

    moved : (n : ℕ) → (n ≡ step → ⊥) → list_at (set lists step list) n ≡ list_at lists n
    moved n differs = get_or-set_other lists step n list [] differs

    stays : (n : ℕ) (own : List Atom) → IsIn n row → IsGiven nodes graph lists n own → IsGiven nodes graph (set lists step list) n own
    stays n own i given = given_moved nodes graph lists (set lists step list) n own (λ parent other has named. moved parent (λ e. is.apart n parent other i has named (subst (λ (p : ℕ). IsIn p row) (sym e) there))) given

    the_step : IsGiven nodes graph (set lists step list) step (list_at (set lists step list) step)
    the_step = subst (IsGiven nodes graph (set lists step list) step) (sym (get_or-set_same lists step list [] within)) (stays step list there gives)

    at : (j : ℕ) → (j < k) ⊎ (k ≤ j) → j < k + 1 → (get_or row j 0 ≡ step) ⊎ (get_or row j 0 ≡ step → ⊥) → IsGiven nodes graph (set lists step list) (get_or row j 0) (list_at (set lists step list) (get_or row j 0))
    at j by l (inl e) = subst (λ (p : ℕ). IsGiven nodes graph (set lists step list) p (list_at (set lists step list) p)) (sym e) the_step
    at j (inl less) l (inr differs) =
        let n = get_or row j 0 in
        subst (IsGiven nodes graph (set lists step list) n) (sym (moved n differs)) (stays n (list_at lists n) (in_at row j (omega (arith, less, here))) (are.given j less))
    at j (inr more) l (inr differs) =
        let last : j ≡ k = omega (arith, l, more) in
        absurd (differs (ap (λ (p : ℕ). get_or row p 0) last ∙ sym same))

pub all_run : (nodes : Nodes) (graph : Graph) (row : List ℕ) (k : ℕ) (old new : Lists) → length row ≤ k → AreRunTo nodes graph row k old new → IsRowRun nodes graph row old new
all_run nodes graph row k old new all are = record {
  as_many = are.as_many;
  given = λ n i.
      let there = place_in row n i in
      let l = there.1 in
      subst (λ (p : ℕ). IsGiven nodes graph new p (list_at new p)) there.2 (are.given there.0 (omega (arith, l, all)));
  kept = are.kept;
}

-- ---- a row in chunks

pub put_run : (nodes : Nodes) (graph : Graph) (row : List ℕ) (made old new : Lists) → AreIndependent graph row → AreMade nodes graph old row made → ArePut row made old new → IsRowRun nodes graph row old new
put_run nodes graph row made old new is are put = record {
  as_many = put.as_many;
  given = λ n i.
      let own = put.put n i in
      let from_old : IsGiven nodes graph old n (list_at new n) =
      subst (IsGiven nodes graph old n) (sym own.3) (subst (λ (p : ℕ). IsGiven nodes graph old p (list_at made own.0)) own.2 (are.each own.0 own.1)) in
      given_moved nodes graph old new n (list_at new n) (λ parent step has named. put.kept parent (is.apart n parent step i has named)) from_old;
  kept = put.kept;
}

-- ---- all rows

-- The rows before a turn were run.
pub record AreRowsRun (nodes : Nodes) (graph : Graph) (rows : List (List ℕ)) (bound : ℕ) (lists : Lists) : Type 0 where
  pub as_many : length lists ≡ length graph.steps
  pub given : (turn n : ℕ) → turn < bound → IsIn n (row_at rows turn) → IsGiven nodes graph lists n (list_at lists n)

pub planned_row : (graph : Graph) (rows : List (List ℕ)) (turn : ℕ) → IsPlan graph rows → AreIndependent graph (row_at rows turn)
planned_row graph rows turn plan = record {
  within = λ n i. (plan.own turn n i).0;
  apart = λ n parent step i has named j.
      let own = (plan.own turn n i).1 in
      let other = (plan.own turn parent j).1 in
      let later = plan.later n parent step has named in
      omega (arith, own, other, later);
}

pub no_rows : (nodes : Nodes) (graph : Graph) (rows : List (List ℕ)) (lists : Lists) → length lists ≡ length graph.steps → AreRowsRun nodes graph rows 0 lists
no_rows nodes graph rows lists many = record { as_many = many; given = λ turn n l. absurd (omega (arith, l)) }

pub one_row : (nodes : Nodes) (graph : Graph) (rows : List (List ℕ)) (bound : ℕ) (old new : Lists) → IsPlan graph rows → IsRowRun nodes graph (row_at rows bound) old new → AreRowsRun nodes graph rows bound old
    → AreRowsRun nodes graph rows (bound + 1) new
one_row nodes graph rows bound old new plan run are = record { as_many = run.as_many ∙ are.as_many; given = λ turn n l i. at turn n l i (cases_eq turn bound) }
  where
    -- a step of an earlier turn keeps its list
    kept : (turn n : ℕ) → turn < bound → plan.turn_of n ≡ turn → list_at new n ≡ list_at old n
    kept turn n l own = run.kept n (λ i. let e = (plan.own bound n i).1 in omega (arith, l, own, e))

    at : (turn n : ℕ) → turn < bound + 1 → IsIn n (row_at rows turn) → (turn ≡ bound) ⊎ (turn ≡ bound → ⊥) → IsGiven nodes graph new n (list_at new n)
    at turn n l i (inl e) = run.given n (subst (λ (t : ℕ). IsIn n (row_at rows t)) e i)
    at turn n l i (inr differs) =
        let less : turn < bound = omega (arith, l, differs) in
        let own = (plan.own turn n i).1 in
        let from_old = given_moved nodes graph old new n (list_at old n) (λ parent step has named.
        let later = plan.later n parent step has named in
        kept (plan.turn_of parent) parent (omega (arith, later, own, less)) refl) (are.given turn n less i) in
        subst (IsGiven nodes graph new n) (sym (kept turn n less own)) from_old

pub all_rows : (nodes : Nodes) (graph : Graph) (rows : List (List ℕ)) (bound : ℕ) (lists : Lists) → IsPlan graph rows → length rows ≤ bound → AreRowsRun nodes graph rows bound lists → IsRun nodes graph lists
all_rows nodes graph rows bound lists plan all are = record {
  as_many = are.as_many;
  each = λ n step l has.
      let i = plan.each n l in
      let there = row_within rows (plan.turn_of n) n i in
      are.given (plan.turn_of n) n (omega (arith, there, all)) i step has;
}
