-- What a step gives, where the lists of its parents are at the places of their numbers.
use Rattle.std.proofs.Common.{◌≡◌, ℕ, ◌<◌, ◌≤◌, List, get_or, map, All, sym, ap, ◌∙◌, subst, arith}
use Rattle.std.proofs.lemmas.List.{get_or_default}
use Rattle.context_model.specs.Atoms.{Atom}
use Rattle.context_model.specs.Orders.{IsIn}
use Rattle.bag_model.specs.Shapes.{Nodes}
use Rattle.trace_model.specs.Graphs.{Step, Graph, parents_of, HasStep, form_at, view_at, IsGraph}
use Rattle.trace_model.specs.Runs.{Lists, list_at, Gives}
use Rattle.trace_model.proofs.ReachLaws.{one_step}
use Rattle.trace_model.proofs.RunLaws.{gives_moved}
use Rattle.recorded_graph.proofs.Parents.{in_at}
use Rattle.par_ranks.specs.Rows.{IsGiven}

-- What a step gives stays so while the lists of its parents do.
pub given_moved : (nodes : Nodes) (graph : Graph) (old new : Lists) (n : ℕ) (list : List Atom)
    → ((parent : ℕ) (step : Step) → HasStep graph n step → IsIn parent (parents_of step.act) → list_at new parent ≡ list_at old parent)
    → IsGiven nodes graph old n list → IsGiven nodes graph new n list
given_moved nodes graph old new n list same given step has =
    gives_moved nodes graph old new step list (λ parent i. sym (same parent step has i)) (given step has)

-- What a step gives from the lists at the places of its parents.
pub given_at : (nodes : Nodes) (graph : Graph) (lists : Lists) (n : ℕ) (own : Step) (places : List ℕ) (list : List Atom)
    → HasStep graph n own → places ≡ parents_of own.act
    → ((step : Step) → HasStep graph n step → Gives nodes (form_at graph step.service) (view_at graph step.service) step.act (map (list_at lists) places) list)
    → IsGiven nodes graph lists n list
given_at nodes graph lists n own places list there same gives step has =
    let one : own ≡ step = one_step graph n own step there has in
    subst (λ (ps : List ℕ). Gives nodes (form_at graph step.service) (view_at graph step.service) step.act (map (list_at lists) ps) list) (same ∙ ap (λ (s : Step). parents_of s.act) one) (gives step has)

-- The parents of a step are before it.
pub parents_before : (graph : Graph) (n : ℕ) (own : Step) (places : List ℕ) (bound : ℕ) → IsGraph graph → HasStep graph n own → places ≡ parents_of own.act → n ≤ bound
    → All (λ place. place < bound) places
parents_before graph n own places bound sound there same upto k d l =
    let earlier : get_or places k 0 < n = sound.earlier n (get_or places k 0) own there (subst (λ (ps : List ℕ). IsIn (get_or places k 0) ps) same (in_at places k l)) in
    subst (λ (place : ℕ). place < bound) (get_or_default places k 0 d l) (let e = earlier in omega (arith, e))
