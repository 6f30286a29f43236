-- What a good line adds may be added to a sound graph.
use Rattle.std.proofs.Common.{◌≡◌, ◌≢◌, inl, inr, ℕ, ◌<◌, ◌≤◌, List, [], ◌∷◌, length, Option, Some, None, refl, sym, ap, subst, arith}
use Rattle.std.proofs.lemmas.Bool.{cases_lt}
use Rattle.std.proofs.lemmas.List.{length-map}
use Rattle.std.proofs.lemmas.List.Quantifiers.{position-Some}
use Rattle.std.specs.List.{slice_get}
use Rattle.std.specs.Option.{option_map}
use Rattle.std.specs.Str.{bytes_eq}
use Rattle.context_model.specs.declared.Form.{Form as WireForm}
use Rattle.context_model.specs.Framing.{least_budget}
use Rattle.context_model.specs.Orders.{IsIn}
use Rattle.bag_model.specs.Shapes.{Nodes}
use Rattle.text_lines.specs.Readings.{NoneOf}
use Rattle.trace_model.specs.Graphs as graphs
use Rattle.trace_model.specs.Graphs.{Act, Graph, HasStep, IsGraph, IsSoundAct, StaysAt, form_at, parents_of}
use Rattle.recorded_graph.specs.Graphs.{MayBeNext}
use Rattle.graph_lines.specs.Forms.{IsSoundStatement}
use Rattle.graph_lines.specs.Statements as lines
use Rattle.graph_lines.specs.Statements.{NamedAct, Statement}
use Rattle.graph_text.specs.Additions.{Addition, AddStep, MeansAct, StandsAtService, IsGoodStatement}
use Rattle.graph_text.specs.Names.{service_names, service_named, service_at, steps_named, parents_named}
use Rattle.graph_text.specs.Rules.{JoinsApart, HasNoBudget, StatementBreaks, graph_rules}

-- The line breaks no rule.
abbrev pub KeepsRules : Nodes → Graph → Statement → Type 0
KeepsRules table graph line = NoneOf (StatementBreaks table graph line) graph_rules

-- ---- a service, and a step that is shown

-- The steps that a good line names are before it.
pub is_earlier : (table : Nodes) (graph : Graph) (line : Statement) (n : ℕ) → KeepsRules table graph line → IsIn n (steps_named line) → n < length graph.steps
is_earlier table graph line n keeps named = elim (cases_lt n (length graph.steps)) [ inl less ↦ less | inr more ↦ absurd (keeps.1.0 (n, named, more)) ]

pub is_shown : (table : Nodes) (graph : Graph) (n : ℕ) → KeepsRules table graph (lines.Show n) → n < length graph.steps
is_shown table graph n keeps = is_earlier table graph (lines.Show n) n keeps (inl refl)

-- ---- a step

-- A name that is found is that of a service.
named_within : (graph : Graph) (name : List ℕ) (service : ℕ) → service_named graph name ≡ Some service → service < length graph.services
named_within graph name service e =
    let found = position-Some (bytes_eq name) (service_names graph) service [] e in
    omega (arith, found.0, length-map graph.services (λ (own : graphs.Service). own.name))

-- A step that is at a service is in the graph.
step_at : (graph : Graph) (n service : ℕ) → service_at graph n ≡ Some service → (step : graphs.Step) × HasStep graph n step × (step.service ≡ service)
step_at graph n service e = by (slice_get graph.steps n) refl e
  where
    by : (found : Option graphs.Step) → slice_get graph.steps n ≡ found → option_map (λ (step : graphs.Step). step.service) found ≡ Some service → (step : graphs.Step) × HasStep graph n step × (step.service ≡ service)
    by None here there = absurd (cc there)
    by (Some step) here there = (step, here, cc there)

stands_within : (graph : Graph) (n service : ℕ) → IsGraph graph → service_at graph n ≡ Some service → service < length graph.services
stands_within graph n service sound e =
    let own = step_at graph n service e in
    subst (λ k. k < length graph.services) own.2 (sound.services n own.0 own.1)

-- The step is at a service of the graph.
service_within : (graph : Graph) (named : NamedAct) (service : ℕ) → IsGraph graph → StandsAtService graph named service → service < length graph.services
service_within graph (lines.Start name) service sound stands = named_within graph name service stands
service_within graph (lines.Recv name hex) service sound stands = named_within graph name service stands
service_within graph (lines.Set parent path write) service sound stands = stands_within graph parent service sound stands
service_within graph (lines.Branch parent) service sound stands = stands_within graph parent service sound stands
service_within graph (lines.Forward parent name) service sound stands = named_within graph name service stands
service_within graph (lines.Trim parent budget) service sound stands = stands_within graph parent service sound stands
service_within graph (lines.Join []) service sound stands = absurd stands
service_within graph (lines.Join (parent ∷ parents)) service sound stands = stands_within graph parent service sound stands

-- What a step does names the parents that its line names.
same_parents : (table : Nodes) (form : WireForm) (named : NamedAct) (act : Act) → MeansAct table form named act → parents_of act ≡ parents_named named
same_parents table form (lines.Start name) act means = ap parents_of means
same_parents table form (lines.Recv name hex) act (list, says, is) = ap parents_of is
same_parents table form (lines.Set parent path write) act (slot, v, says, is) = ap parents_of is
same_parents table form (lines.Branch parent) act means = ap parents_of means
same_parents table form (lines.Forward parent name) act means = ap parents_of means
same_parents table form (lines.Trim parent budget) act means = ap parents_of means
same_parents table form (lines.Join parents) act means = ap parents_of means

some_budget : (graph : Graph) (parent number budget service : ℕ) → (HasNoBudget graph (lines.Step number (lines.Trim parent budget)) → ⊥)
    → service_at graph parent ≡ Some service → least_budget (form_at graph service) ≤ budget
some_budget graph parent number budget service keeps at =
    elim (cases_lt budget (least_budget (form_at graph service))) [ inl less ↦ absurd (keeps (inl (service, at, less))) | inr enough ↦ enough ]

-- What a step does is sound.
sound_act : (table : Nodes) (graph : Graph) (number : ℕ) (named : NamedAct) (act : Act) (service : ℕ) → IsSoundStatement (lines.Step number named) → KeepsRules table graph (lines.Step number named)
    → StandsAtService graph named service → MeansAct table (form_at graph service) named act → IsSoundAct (form_at graph service) act
sound_act table graph number (lines.Start name) act service sound keeps stands means = subst (IsSoundAct (form_at graph service)) (sym means) tt
sound_act table graph number (lines.Recv name hex) act service sound keeps stands (list, says, is) = subst (IsSoundAct (form_at graph service)) (sym is) tt
sound_act table graph number (lines.Set parent path write) act service sound keeps stands (slot, v, says, is) = subst (IsSoundAct (form_at graph service)) (sym is) tt
sound_act table graph number (lines.Branch parent) act service sound keeps stands means = subst (IsSoundAct (form_at graph service)) (sym means) tt
sound_act table graph number (lines.Forward parent name) act service sound keeps stands means = subst (IsSoundAct (form_at graph service)) (sym means) tt
sound_act table graph number (lines.Trim parent budget) act service sound keeps stands means = subst (IsSoundAct (form_at graph service)) (sym means) (some_budget graph parent number budget service keeps.1.1.1.1.1.1.1.1.0 stands)
sound_act table graph number (lines.Join parents) act service sound keeps stands means = subst (IsSoundAct (form_at graph service)) (sym means) sound.1.0

-- ---- the parents of a step

-- A step of the graph is at its service.
stands_there : (graph : Graph) (n : ℕ) (own : graphs.Step) → HasStep graph n own → service_at graph n ≡ Some own.service
stands_there graph n own e = ap (option_map (λ (step : graphs.Step). step.service)) e

one_parent : (graph : Graph) (parent n service : ℕ) (own : graphs.Step) → service_at graph parent ≡ Some service → IsIn n (parent ∷ []) → HasStep graph n own → service ≡ own.service
one_parent graph parent n service own stands (inl same) e =
    let there : service_at graph parent ≡ Some own.service = subst (λ k. service_at graph k ≡ Some own.service) same (stands_there graph n own e) in
    cc (stands, there)
one_parent graph parent n service own stands (inr none) e = absurd none

-- Numbers that don't differ are equal.
not_apart : (m n : ℕ) → ((m ≢ n) → ⊥) → m ≡ n
not_apart m n f = elim (cases_lt m n) [
  | inl less ↦ absurd (f (λ e. omega (arith, less, e)))
  | inr more ↦ elim (cases_lt n m) [ inl less ↦ absurd (f (λ e. omega (arith, less, e))) | inr fewer ↦ omega arith ]
]

joined_parent : (graph : Graph) (number parent : ℕ) (parents : List ℕ) (n service : ℕ) (own : graphs.Step) → (JoinsApart graph (lines.Step number (lines.Join (parent ∷ parents))) → ⊥)
    → service_at graph parent ≡ Some service → IsIn n (parent ∷ parents) → HasStep graph n own → service ≡ own.service
joined_parent graph number parent parents n service own keeps stands i e = not_apart service own.service (λ differ.
    keeps (parent, n, inl refl, i, λ same. differ (let there = stands_there graph n own e in cc (stands, there, same))))

-- A step is where it must be after its parents.
stays : (table : Nodes) (graph : Graph) (number : ℕ) (named : NamedAct) (act : Act) (service : ℕ) → KeepsRules table graph (lines.Step number named) → StandsAtService graph named service → MeansAct table (form_at graph service) named act
    → (n : ℕ) (own : graphs.Step) → IsIn n (parents_named named) → HasStep graph n own → StaysAt act own.service service
stays table graph number (lines.Start name) act service keeps stands means n own i e = absurd i
stays table graph number (lines.Recv name hex) act service keeps stands means n own i e = absurd i
stays table graph number (lines.Set parent path write) act service keeps stands (slot, v, says, is) n own i e =
    subst (λ a. StaysAt a own.service service) (sym is) (one_parent graph parent n service own stands i e)
stays table graph number (lines.Branch parent) act service keeps stands means n own i e = subst (λ a. StaysAt a own.service service) (sym means) (one_parent graph parent n service own stands i e)
stays table graph number (lines.Forward parent name) act service keeps stands means n own i e = subst (λ a. StaysAt a own.service service) (sym means) tt
stays table graph number (lines.Trim parent budget) act service keeps stands means n own i e = subst (λ a. StaysAt a own.service service) (sym means) (one_parent graph parent n service own stands i e)
stays table graph number (lines.Join []) act service keeps stands means n own i e = absurd stands
stays table graph number (lines.Join (parent ∷ parents)) act service keeps stands means n own i e =
    subst (λ a. StaysAt a own.service service) (sym means) (joined_parent graph number parent parents n service own keeps.1.1.1.1.0 stands i e)

-- ---- the step of a good line

-- What a line adds is the step that it says.
one_step : (step other : graphs.Step) → ◌≡◌ {A = Addition} (AddStep step) (AddStep other) → step ≡ other
one_step step other e = cc e

-- The step of a good line may be the next of a sound graph.
pub may_follow : (table : Nodes) (graph : Graph) (number : ℕ) (named : NamedAct) (step : graphs.Step) → IsGraph graph → IsSoundStatement (lines.Step number named)
    → IsGoodStatement table graph (lines.Step number named) (AddStep step) → MayBeNext graph step
may_follow table graph number named step sound line (keeps, (service, act, stands, means, is)) =
    subst (MayBeNext graph) (sym (one_step step (record { service = service; act = act }) is)) (record {
      act = sound_act table graph number named act service line keeps stands means;
      service = service_within graph named service sound stands;
      parents = λ parent i.
          let own_line : IsIn parent (parents_named named) = subst (IsIn parent) (same_parents table (form_at graph service) named act means) i in
          record {
            earlier = is_earlier table graph (lines.Step number named) parent keeps own_line;
            stays = λ own e. stays table graph number named act service keeps stands means parent own own_line e;
          };
    })
