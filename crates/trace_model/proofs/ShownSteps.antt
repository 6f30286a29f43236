-- What is shown are steps of the graph, each in the form of its service.
use Rattle.std.proofs.Common.{◌≡◌, ◌∙◌, inl, inr, ℕ, zero, suc, ◌<◌, List, [], ◌∷◌, length, get_or, refl, subst, arith, ap, sym}
use Rattle.context_model.specs.Orders.{IsIn}
use Rattle.trace_model.specs.Graphs.{Graph, IsGraph, Step, Service, HasStep, HasService, step_form, form_of_service, form_of_step}

pub shown_within : (graph : Graph) (items : List ℕ) (k : ℕ) → IsGraph graph → items ≡ graph.shows → k < length items → get_or items k 0 < length graph.steps
shown_within graph items k sound same l =
    sound.shows (get_or items k 0) (subst (λ (shows : List ℕ). IsIn (get_or items k 0) shows) same (in_at items k l))
  where
    in_at : (xs : List ℕ) (n : ℕ) → n < length xs → IsIn (get_or xs n 0) xs
    in_at [] n less = absurd (omega (arith, less))
    in_at (x ∷ xs) zero less = inl refl
    in_at (x ∷ xs) (suc n) less = inr (in_at xs n (omega (arith, less)))

-- The form of a step is that of the service where it is.
pub form_there : (graph : Graph) (n : ℕ) (step : Step) (service : Service) → HasStep graph n step → HasService graph step.service service → service.form ≡ step_form graph n
form_there graph n step service there stands = ap form_of_service (sym stands) ∙ ap (form_of_step graph) (sym there)
