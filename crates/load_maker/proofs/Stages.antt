-- Graphs of the load as they grow step by step: how many steps there are, and where they are.
use Rattle.std.proofs.Common.{◌≡◌, ℕ, zero, suc, ◌+◌, ◌<◌, List, [], ◌∷◌, ◌++◌, length, codes, Option, Some, refl, ap, ◌∙◌, subst, arith}
use Rattle.std.proofs.lemmas.List.{length-append}
use Rattle.std.specs.List.{slice_get}
use Rattle.std.specs.Option.{option_map}
use Rattle.context_model.specs.declared.Form.TheVariants.{One}
use Rattle.bag_model.specs.Views as views
use Rattle.trace_model.specs.Graphs.{Graph, Service, Step}
use Rattle.recorded_graph.specs.Graphs.{with_step}
use Rattle.graph_text.specs.Names.{service_at}

-- The two services of the load.
abbrev pub load_services : List Service
load_services = record { name = codes "a"; form = One; view = views.All } ∷ record { name = codes "b"; form = One; view = views.Nothing } ∷ []

-- A graph of the load with `count` steps, of which none is shown yet.
pub record IsStage (graph : Graph) (count : ℕ) : Type 0 where
  pub services : graph.services ≡ load_services
  pub steps : length graph.steps ≡ count
  pub shows : graph.shows ≡ []

-- The step is at the service.
abbrev pub Stands : Graph → ℕ → ℕ → Type 0
Stands graph n service = service_at graph n ≡ Some service

abbrev place : List Step → ℕ → Option ℕ
place steps n = option_map (λ (step : Step). step.service) (slice_get steps n)

place_within : (steps : List Step) (n service : ℕ) → place steps n ≡ Some service → n < length steps
place_within [] n service e = absurd (cc e)
place_within (step ∷ steps) zero service e = omega arith
place_within (step ∷ steps) (suc n) service e = let rest = place_within steps n service e in omega (arith, rest)

place_stays : (steps more : List Step) (n service : ℕ) → place steps n ≡ Some service → place (steps ++ more) n ≡ Some service
place_stays [] more n service e = absurd (cc e)
place_stays (step ∷ steps) more zero service e = e
place_stays (step ∷ steps) more (suc n) service e = place_stays steps more n service e

place_new : (steps : List Step) (step : Step) → place (steps ++ step ∷ []) (length steps) ≡ Some step.service
place_new [] step = refl
place_new (own ∷ steps) step = place_new steps step

-- A step that is somewhere is a step of the graph.
pub stands_within : (graph : Graph) (n service : ℕ) → Stands graph n service → n < length graph.steps
stands_within graph n service stands = place_within graph.steps n service stands

-- It is there still as the graph grows.
pub stands_still : (graph : Graph) (step : Step) (n service : ℕ) → Stands graph n service → Stands (with_step graph step) n service
stands_still graph step n service stands = place_stays graph.steps (step ∷ []) n service stands

-- The next step is at its service.
pub stands_new : (graph : Graph) (step : Step) (n : ℕ) → IsStage graph n → Stands (with_step graph step) n step.service
stands_new graph step n stage = subst (λ (m : ℕ). Stands (with_step graph step) m step.service) stage.steps (place_new graph.steps step)

pub next_stage : (graph : Graph) (step : Step) (n : ℕ) → IsStage graph n → IsStage (with_step graph step) (n + 1)
next_stage graph step n stage = record {
  services = stage.services;
  steps = length-append graph.steps (step ∷ []) ∙ ap (λ (m : ℕ). m + 1) stage.steps;
  shows = stage.shows;
}
