-- A run with one list more.
use Rattle.std.proofs.Common.{◌≡◌, ℕ, suc, ◌+◌, ◌<◌, ◌≤◌, List, [], ◌∷◌, ◌++◌, length, map, Some, sym, ap, ◌∙◌, subst, arith}
use Rattle.context_model.specs.Atoms.{Atom}
use Rattle.context_model.specs.Orders.{IsIn}
use Rattle.bag_model.specs.Shapes.{Nodes}
use Rattle.trace_model.specs.Graphs.{Step, Graph, parents_of, HasStep, form_at, view_at, IsGraph, IsRecorded}
use Rattle.trace_model.specs.Runs.{Lists, list_at, Gives, RunsTo, RunsGrow}
use Rattle.step_rules.specs.Parents.{ArePlacesOf}

one_step : (a b : Step) → Some a ≡ Some b → a ≡ b
one_step a b e = cc

-- Where the lists of all earlier steps are at the places of their numbers, whatever follows, the
-- parents of a step are their own places.
pub places_fit : (graph : Graph) (lists : Lists) (n : ℕ) (step : Step) (places : List ℕ) → IsGraph graph → HasStep graph n step → n ≤ length lists → places ≡ parents_of step.act
    → (own : Step) → HasStep graph n own → ArePlacesOf (parents_of own.act) lists places
places_fit graph lists n step places sound there many same own has =
    let one : step ≡ own = one_step step own (sym there ∙ has) in
    let parents : places ≡ parents_of own.act = same ∙ ap (λ (s : Step). parents_of s.act) one in
    record {
      as_many = ap length parents;
      within = λ place i.
          let earlier : place < n = sound.earlier n place own has (subst (λ (ps : List ℕ). IsIn place ps) parents i) in
          omega (arith, earlier, many);
    }

-- What a step gives from the lists of its parents goes after the run.
pub run_grows : RunsGrow → (nodes : Nodes) (graph : Graph) (lists : Lists) (n : ℕ) (step : Step) (places : List ℕ) (list : List Atom)
    → IsRecorded nodes graph → RunsTo nodes graph lists n → HasStep graph n step → places ≡ parents_of step.act
    → ((own : Step) → HasStep graph n own → Gives nodes (form_at graph own.service) (view_at graph own.service) own.act (map (list_at lists) places) list)
    → RunsTo nodes graph (lists ++ list ∷ []) (n + 1)
run_grows grow nodes graph lists n step places list recorded run there same gives =
    subst (λ (k : ℕ). RunsTo nodes graph (lists ++ list ∷ []) k) (let e : suc n ≡ n + 1 = omega arith in e)
    (grow.more nodes graph lists n step list recorded run there
    (subst (λ (ps : List ℕ). Gives nodes (form_at graph step.service) (view_at graph step.service) step.act (map (list_at lists) ps) list) same (gives step there)))
