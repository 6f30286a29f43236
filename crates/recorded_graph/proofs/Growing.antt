-- A graph that grows as a recorded graph may stays sound.
use Rattle.std.proofs.Common.{◌≡◌, ◌⊎◌, inl, inr, ℕ, zero, suc, ◌<◌, List, [], ◌∷◌, ◌++◌, length, map, Some, refl, sym, ap, subst, length-append, arith}
use Rattle.std.specs.List.{slice_get}
use Rattle.std.proofs.lemmas.List.{map-append}
use Rattle.std.proofs.lemmas.Option.{slice_get_within}
use Rattle.context_model.specs.Orders.{IsIn}
use Rattle.bag_model.specs.Shapes.{Nodes}
use Rattle.trace_model.specs.Graphs as model
use Rattle.trace_model.specs.Graphs.{Graph, parents_of, HasStep, HasService, form_of_service, form_at, view_of, view_at, IsSoundAct, StaysAt, IsGraph, IsActOf, IsViewOf, IsOfTable}
use Rattle.recorded_graph.specs.declared.graphs.TheConstants.{STEPS_MAX}
use Rattle.recorded_graph.specs.declared.steps.Service.{Service}
use Rattle.recorded_graph.specs.declared.steps.Step.{Step}
use Rattle.recorded_graph.specs.Plain.{service_of, step_of, plain_graph, IsKeptGraph}
use Rattle.recorded_graph.specs.Graphs.{empty_graph, with_service, with_step, with_show, MayHaveParent, MayBeNext, GraphsOfTablesGrow}

-- An element of a list with one more is one of the list, or the last.
get_more : {A : Type 0} (xs : List A) (x y : A) (n : ℕ) → slice_get (xs ++ x ∷ []) n ≡ Some y → (slice_get xs n ≡ Some y) ⊎ ((n ≡ length xs) × (x ≡ y))
get_more [] x y zero e = inr (refl, cc)
get_more [] x y (suc n) e = absurd (cc e)
get_more (z ∷ xs) x y zero e = inl e
get_more (z ∷ xs) x y (suc n) e = elim (get_more xs x y n e) [ inl h ↦ inl h | inr h ↦ inr (ap suc h.0, h.1) ]

get_kept : {A : Type 0} (xs : List A) (x : A) (n : ℕ) → n < length xs → slice_get (xs ++ x ∷ []) n ≡ slice_get xs n
get_kept [] x n l = absurd (omega (arith, l))
get_kept (z ∷ xs) x zero l = refl
get_kept (z ∷ xs) x (suc n) l = get_kept xs x n (omega (arith, l))

in_more : {A : Type 0} (xs : List A) (x y : A) → IsIn y (xs ++ x ∷ []) → IsIn y xs ⊎ (y ≡ x)
in_more [] x y (inl e) = inr e
in_more [] x y (inr none) = absurd none
in_more (z ∷ xs) x y (inl e) = inl (inl e)
in_more (z ∷ xs) x y (inr i) = elim (in_more xs x y i) [ inl h ↦ inl (inr h) | inr h ↦ inr h ]

longer : {A : Type 0} (xs : List A) (x : A) (n : ℕ) → n < length xs → n < length (xs ++ x ∷ [])
longer xs x n l = omega (arith, length-append xs (x ∷ []))

-- ---- plain graphs

pub empty_sound : IsGraph empty_graph
empty_sound = record {
  acts = λ n step e. absurd (cc e);
  earlier = λ n parent step e i. absurd (cc e);
  services = λ n step e. absurd (cc e);
  stays = λ n parent step own e i o. absurd (cc e);
  shows = λ n i. absurd i;
}

pub service_sound : (graph : Graph) (service : model.Service) → IsGraph graph → IsGraph (with_service graph service)
service_sound graph service g = record {
  acts = λ n step e.
      let same = get_kept graph.services service step.service (g.services n step e) in
      subst (λ s. IsSoundAct (form_of_service s) step.act) (sym same) (g.acts n step e);
  earlier = g.earlier;
  services = λ n step e. longer graph.services service step.service (g.services n step e);
  stays = g.stays;
  shows = g.shows;
}

pub show_sound : (graph : Graph) (n : ℕ) → IsGraph graph → n < length graph.steps → IsGraph (with_show graph n)
show_sound graph n g l = record {
  acts = g.acts;
  earlier = g.earlier;
  services = g.services;
  stays = g.stays;
  shows = λ m i. elim (in_more graph.shows n m i) [ inl h ↦ g.shows m h | inr h ↦ subst (λ k. k < length graph.steps) (sym h) l ];
}

-- What holds of all steps of the graph, and of the next, holds of all steps of the greater one.
each_step : (graph : Graph) (step : model.Step) (P : ℕ → model.Step → Type 0) → ((n : ℕ) (own : model.Step) → HasStep graph n own → P n own) → P (length graph.steps) step
    → (n : ℕ) (own : model.Step) → HasStep (with_step graph step) n own → P n own
each_step graph step P old new n own e = elim (get_more graph.steps step own n e) [
  | inl h ↦ old n own h
  | inr h ↦ subst (λ s. P n s) h.1 (subst (λ m. P m step) (sym h.0) new)
]

module _ (graph : Graph) (step : model.Step) (g : IsGraph graph) (f : MayBeNext graph step) where
  earlier_in : (n parent : ℕ) (own : model.Step) → HasStep (with_step graph step) n own → IsIn parent (parents_of own.act) → parent < length graph.steps
  earlier_in n parent own e i = each_step graph step (λ m s. IsIn parent (parents_of s.act) → parent < length graph.steps)
      (λ m s h j. let sooner = g.earlier m parent s h j in let within = slice_get_within graph.steps m s h in omega (arith, sooner, within))
      (λ j. (f.parents parent j).earlier) n own e i

  old_step : (parent : ℕ) (own : model.Step) → parent < length graph.steps → HasStep (with_step graph step) parent own → HasStep graph parent own
  old_step parent own l e = elim (get_more graph.steps step own parent e) [ inl h ↦ h | inr h ↦ absurd (let same = h.0 in omega (arith, same, l)) ]

  pub step_sound : IsGraph (with_step graph step)
  step_sound = record {
    acts = each_step graph step (λ n s. IsSoundAct (form_at graph s.service) s.act) g.acts f.act;
    earlier = λ n parent. each_step graph step (λ m s. IsIn parent (parents_of s.act) → parent < m) (λ m s h. g.earlier m parent s h) (λ j. (f.parents parent j).earlier) n;
    services = each_step graph step (λ n s. s.service < length graph.services) g.services f.service;
    stays = λ n parent s own e i o.
        let before : HasStep graph parent own = old_step parent own (earlier_in n parent s e i) o in
        each_step graph step (λ m t. IsIn parent (parents_of t.act) → StaysAt t.act own.service t.service) (λ m t h j. g.stays m parent t own h j before) (λ j. (f.parents parent j).stays own before) n s e i;
    shows = λ n i. longer graph.steps step n (g.shows n i);
  }

-- A step that is sound at its service, and has its parents, may follow.
pub may_follow : (graph : Graph) (step : model.Step) (service : model.Service) → HasService graph step.service service → step.service < length graph.services
    → IsSoundAct service.form step.act → ((parent : ℕ) → IsIn parent (parents_of step.act) → MayHaveParent graph step parent) → MayBeNext graph step
may_follow graph step service at within sound parents = record { act = subst (λ s. IsSoundAct (form_of_service s) step.act) (sym at) sound; service = within; parents = parents }

-- ---- graphs of a table

empty_of : (nodes : Nodes) → IsOfTable nodes empty_graph
empty_of nodes = record { views = λ n service e. absurd (cc e); acts = λ n step e. absurd (cc e) }

service_of_table : (nodes : Nodes) (graph : Graph) (service : model.Service) → IsGraph graph → IsOfTable nodes graph → IsViewOf nodes service.view → IsOfTable nodes (with_service graph service)
service_of_table nodes graph service g t view = record {
  views = λ n own e. elim (get_more graph.services service own n e) [ inl h ↦ t.views n own h | inr h ↦ subst (λ s. IsViewOf nodes s.view) h.1 view ];
  acts = λ n step e.
      let same = get_kept graph.services service step.service (g.services n step e) in
      subst (λ s. IsActOf nodes (view_of s) step.act) (sym same) (t.acts n step e);
}

step_of_table : (nodes : Nodes) (graph : Graph) (step : model.Step) → IsOfTable nodes graph → IsActOf nodes (view_at graph step.service) step.act → IsOfTable nodes (with_step graph step)
step_of_table nodes graph step t act = record {
  views = t.views;
  acts = each_step graph step (λ n s. IsActOf nodes (view_at graph s.service) s.act) t.acts act;
}

pub graphs_grow : GraphsOfTablesGrow
graphs_grow = record {
  empty = empty_of;
  service = service_of_table;
  step = step_of_table;
  show = λ nodes graph n t. record { views = t.views; acts = t.acts };
}

-- ---- graphs as they are kept

-- the lists of services, of steps and of shown steps with one more are those of the greater graph
pub more_services : (services : List Service) (steps : List Step) (shows : List ℕ) (service : Service) → plain_graph (services ++ service ∷ []) steps shows ≡ with_service (plain_graph services steps shows) (service_of service)
more_services services steps shows service = λ i. record { services = map-append service_of services (service ∷ []) i; steps = map step_of steps; shows = shows }

pub more_steps : (services : List Service) (steps : List Step) (shows : List ℕ) (step : Step) → plain_graph services (steps ++ step ∷ []) shows ≡ with_step (plain_graph services steps shows) (step_of step)
more_steps services steps shows step = λ i. record { services = map service_of services; steps = map-append step_of steps (step ∷ []) i; shows = shows }

pub service_kept : (services : List Service) (steps : List Step) (shows : List ℕ) (service : Service) → IsKeptGraph (plain_graph services steps shows) → IsKeptGraph (plain_graph (services ++ service ∷ []) steps shows)
service_kept services steps shows service k =
    subst IsKeptGraph (sym (more_services services steps shows service))
    (record { sound = service_sound (plain_graph services steps shows) (service_of service) k.sound; few = k.few })

pub step_kept : (services : List Service) (steps : List Step) (shows : List ℕ) (step : Step) → IsKeptGraph (plain_graph services steps shows)
    → length (map step_of steps) < STEPS_MAX → MayBeNext (plain_graph services steps shows) (step_of step) → IsKeptGraph (plain_graph services (steps ++ step ∷ []) shows)
step_kept services steps shows step k room f =
    subst IsKeptGraph (sym (more_steps services steps shows step))
    (record {
      sound = step_sound (plain_graph services steps shows) (step_of step) k.sound f;
      few = omega (arith, length-append (map step_of steps) (step_of step ∷ []), room);
    })

pub show_kept : (services : List Service) (steps : List Step) (shows : List ℕ) (n : ℕ) → IsKeptGraph (plain_graph services steps shows) → n < length (map step_of steps)
    → IsKeptGraph (plain_graph services steps (shows ++ n ∷ []))
show_kept services steps shows n k l = record { sound = show_sound (plain_graph services steps shows) n k.sound l; few = k.few }
