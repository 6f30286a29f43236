-- A graph has one run, and a run grows by one list after another.
use Rattle.std.proofs.Common.{◌≡◌, ◌⊎◌, inl, inr, ℕ, zero, suc, ◌<◌, ◌≤◌, List, [], ◌∷◌, ◌++◌, length, map, refl, sym, ◌∙◌, subst, length-append, arith}
use Rattle.std.proofs.lemmas.Bool.{cases_lt}
use Rattle.context_model.specs.declared.Form.{Form}
use Rattle.context_model.specs.Atoms.{Atom}
use Rattle.context_model.specs.Orders.{IsIn}
use Rattle.context_model.specs.WellFormed.{IsWellFormed}
use Rattle.context_model.proofs.MergedLaws.{has_one_merge}
use Rattle.bag_model.specs.Shapes.{Nodes}
use Rattle.bag_model.specs.SlotValues.{only}
use Rattle.bag_model.specs.Tables.{IsTable}
use Rattle.bag_model.specs.Views.{View}
use Rattle.bag_model.specs.NormalForm.{IsNormalOf}
use Rattle.bag_model.proofs.LayoutLaws.{encodings_read_back}
use Rattle.bag_model.proofs.NormalFormLaws.{normal_form_keeps}
use Rattle.trace_model.specs.Graphs.{Act, Start, Recv, Set, Branch, Forward, Trim, Join, Step, Graph, parents_of, HasStep, view_at, IsActOf, IsRecorded, form_at}
use Rattle.trace_model.specs.Runs.{list_at, parents_lists, IsNormalMerge, Gives, StepGives, RunsTo, IsRun, HasOneRun, RunsGrow}
use Rattle.trace_model.proofs.ReachLaws.{one_step}
use Rattle.trace_model.proofs.Arrivals.{get_within}
use Rattle.trace_model.proofs.FaithfulLaws.{parents_well_formed}

-- ---- an act gives one list

one_normal : (nodes : Nodes) (view : View) (list a b : List Atom) → IsTable nodes → IsWellFormed list → IsNormalOf nodes view list a → IsNormalOf nodes view list b → a ≡ b
one_normal nodes view list a b table w f g = ((normal_form_keeps).lists nodes view list b table w g).one a f

one_normal_merge : (nodes : Nodes) (view : View) (lists : List (List Atom)) (a b : List Atom) → IsTable nodes → IsNormalMerge nodes view lists a → IsNormalMerge nodes view lists b → a ≡ b
one_normal_merge nodes view lists a b table f g =
    let same : g.merged ≡ f.merged = has_one_merge lists g.merged f.merged g.merge f.merge in
    one_normal nodes view f.merged a b table (f.merge).well_formed f.normal (subst (λ l. IsNormalOf nodes view l b) same g.normal)

-- Two lists that an act gives are equal.
pub gives_one : (nodes : Nodes) (form : Form) (view : View) (act : Act) (lists : List (List Atom)) (a b : List Atom) → IsTable nodes → IsActOf nodes view act
    → ((parent : ℕ) → IsIn parent (parents_of act) → IsWellFormed (list_at lists parent))
    → Gives nodes form view act (parents_lists lists act) a → Gives nodes form view act (parents_lists lists act) b → a ≡ b
gives_one nodes form view Start lists a b table may w f g = f ∙ sym g
gives_one nodes form view (Recv received) lists a b table may w f g = one_normal nodes view received a b table may.well_formed f g
gives_one nodes form view (Set parent slot v) lists a b table may w f g =
    let same : g.written ≡ f.written = (encodings_read_back).one nodes (only nodes slot v) g.written f.written g.encoding f.encoding in
    one_normal_merge nodes view (list_at lists parent ∷ f.written ∷ []) a b table f.normal (subst (λ l. IsNormalMerge nodes view (list_at lists parent ∷ l ∷ []) b) same g.normal)
gives_one nodes form view (Branch parent) lists a b table may w f g = f ∙ sym g
gives_one nodes form view (Forward parent) lists a b table may w f g = one_normal nodes view (list_at lists parent) a b table (w parent (inl refl)) f g
gives_one nodes form view (Trim parent budget) lists a b table may w f g = f ∙ sym g
gives_one nodes form view (Join parents) lists a b table may w f g = one_normal_merge nodes view (map (list_at lists) parents) a b table f g

-- ---- lists by their places

-- The parents' lists are the same where each parent has one list.
pub parents_same : (a b : List (List Atom)) (parents : List ℕ) → ((parent : ℕ) → IsIn parent parents → list_at a parent ≡ list_at b parent) → map (list_at a) parents ≡ map (list_at b) parents
parents_same a b [] f = refl
parents_same a b (parent ∷ parents) f =
    let first = f parent (inl refl) in
    let rest = parents_same a b parents (λ m i. f m (inr i)) in
    λ i. first i ∷ rest i

lists_same : (a b : List (List Atom)) → length a ≡ length b → ((n : ℕ) → n < length a → list_at a n ≡ list_at b n) → a ≡ b
lists_same [] [] l f = refl
lists_same [] (y ∷ b) l f = absurd (omega (arith, l))
lists_same (x ∷ a) [] l f = absurd (omega (arith, l))
lists_same (x ∷ a) (y ∷ b) l f =
    let first : x ≡ y = f 0 (omega arith) in
    let rest : a ≡ b = lists_same a b (omega (arith, l)) (λ n less. f (suc n) (omega (arith, less))) in
    λ i. first i ∷ rest i

list_at-front : (a b : List (List Atom)) (n : ℕ) → n < length a → list_at (a ++ b) n ≡ list_at a n
list_at-front [] b n l = absurd (omega (arith, l))
list_at-front (x ∷ a) b zero l = refl
list_at-front (x ∷ a) b (suc n) l = list_at-front a b n (omega (arith, l))

list_at-next : (a : List (List Atom)) (list : List Atom) → list_at (a ++ list ∷ []) (length a) ≡ list
list_at-next [] list = refl
list_at-next (x ∷ a) list = list_at-next a list

-- ---- one run

module _ (nodes : Nodes) (graph : Graph) (a b : List (List Atom)) (recorded : IsRecorded nodes graph) (f : IsRun nodes graph a) (g : IsRun nodes graph b) where
  same_before : (bound n : ℕ) → n < bound → n < length graph.steps → list_at a n ≡ list_at b n
  same_before zero n less within = absurd (omega (arith, less))
  same_before (suc bound) n less within =
      let s = get_within graph.steps n within in
      let parents : parents_lists a (s.0).act ≡ parents_lists b (s.0).act = parents_same a b (parents_of (s.0).act) (λ parent i.
      let earlier : parent < n = (recorded.sound).earlier n parent s.0 s.1 i in
      same_before bound parent (omega (arith, earlier, less)) (omega (arith, earlier, within))) in
      gives_one nodes (form_at graph (s.0).service) (view_at graph (s.0).service) (s.0).act a (list_at a n) (list_at b n) recorded.table ((recorded.fits).acts n s.0 s.1)
      (parents_well_formed nodes graph a n s.0 (record { recorded = recorded; run = f; within = within }) s.1)
      (f.each n s.0 within s.1)
      (subst (λ ls. Gives nodes (form_at graph (s.0).service) (view_at graph (s.0).service) (s.0).act ls (list_at b n)) (sym parents) (g.each n s.0 within s.1))

pub has_one_run : HasOneRun
has_one_run nodes graph a b recorded f g =
    lists_same a b (f.as_many ∙ sym g.as_many) (λ n less. same_before nodes graph a b recorded f g (suc n) n (omega arith) (subst (λ l. n < l) f.as_many less))

-- ---- one list more

-- What a step gives depends on the lists of its parents alone.
pub gives_moved : (nodes : Nodes) (graph : Graph) (a b : List (List Atom)) (step : Step) (list : List Atom)
    → ((parent : ℕ) → IsIn parent (parents_of step.act) → list_at a parent ≡ list_at b parent)
    → StepGives nodes graph a step list → StepGives nodes graph b step list
gives_moved nodes graph a b step list f g = subst (λ ls. Gives nodes (form_at graph step.service) (view_at graph step.service) step.act ls list) (parents_same a b (parents_of step.act) f) g

run_more : (nodes : Nodes) (graph : Graph) (lists : List (List Atom)) (n : ℕ) (step : Step) (list : List Atom)
    → IsRecorded nodes graph → RunsTo nodes graph lists n → HasStep graph n step
    → StepGives nodes graph lists step list
    → RunsTo nodes graph (lists ++ list ∷ []) (suc n)
run_more nodes graph lists n step list recorded run there gives = record {
  as_many = let l = length-append lists (list ∷ []) in omega (arith, l, run.as_many);
  each = λ m other less has. by m other less has (cases_lt m n);
}
  where
    -- earlier steps keep their lists
    kept : (m : ℕ) → m < n → list_at lists m ≡ list_at (lists ++ list ∷ []) m
    kept m l = sym (list_at-front lists (list ∷ []) m (subst (λ k. m < k) (sym run.as_many) l))

    moved : (m : ℕ) (other : Step) (own : List Atom) → m ≤ n → HasStep graph m other → StepGives nodes graph lists other own → StepGives nodes graph (lists ++ list ∷ []) other own
    moved m other own l has g = gives_moved nodes graph lists (lists ++ list ∷ []) other own (λ parent i.
        let earlier : parent < m = (recorded.sound).earlier m parent other has i in
        kept parent (omega (arith, earlier, l))) g

    last : list_at (lists ++ list ∷ []) n ≡ list
    last = subst (λ k. list_at (lists ++ list ∷ []) k ≡ list) run.as_many (list_at-next lists list)

    by : (m : ℕ) (other : Step) → m < suc n → HasStep graph m other → (m < n) ⊎ (n ≤ m) → StepGives nodes graph (lists ++ list ∷ []) other (list_at (lists ++ list ∷ []) m)
    by m other less has (inl l) = subst (StepGives nodes graph (lists ++ list ∷ []) other) (kept m l) (moved m other (list_at lists m) (omega (arith, l)) has (run.each m other l has))
    by m other less has (inr l) =
        let same : n ≡ m = omega (arith, less, l) in
        let step_is : step ≡ other = one_step graph n step other there (subst (λ k. HasStep graph k other) (sym same) has) in
        subst (λ k. StepGives nodes graph (lists ++ list ∷ []) other (list_at (lists ++ list ∷ []) k)) same
        (subst (λ (o : Step). StepGives nodes graph (lists ++ list ∷ []) o (list_at (lists ++ list ∷ []) n)) step_is
        (subst (StepGives nodes graph (lists ++ list ∷ []) step) (sym last) (moved n step list (omega arith) there gives)))

pub runs_grow : RunsGrow
runs_grow = record {
  none = λ nodes graph. record { as_many = refl; each = λ m step less there. absurd (omega (arith, less)) };
  more = run_more;
}
