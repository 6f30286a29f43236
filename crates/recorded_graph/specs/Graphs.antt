-- Graphs that grow at their ends.
use Rattle.std.specs.Prelude.{ℕ, ◌<◌, [], ◌∷◌, ◌++◌, length}
use Rattle.context_model.specs.Orders.{IsIn}
use Rattle.bag_model.specs.Shapes.{Nodes}
use Rattle.trace_model.specs.Graphs.{Service, Step, Graph, parents_of, HasStep, form_at, view_at, IsSoundAct, StaysAt, IsGraph, IsActOf, IsViewOf, IsOfTable}

-- The graph without services and steps.
abbrev pub empty_graph : Graph
empty_graph = record { services = []; steps = []; shows = [] }

-- The graph with one service more.
abbrev pub with_service : Graph → Service → Graph
with_service graph service = record graph { services = graph.services ++ service ∷ [] }

-- The graph with one step more.
abbrev pub with_step : Graph → Step → Graph
with_step graph step = record graph { steps = graph.steps ++ step ∷ [] }

-- The graph with one step more that is shown.
abbrev pub with_show : Graph → ℕ → Graph
with_show graph n = record graph { shows = graph.shows ++ n ∷ [] }

-- The number is that of a step of the graph, and this step may be its child: it is where it must
-- be.
pub record MayHaveParent (graph : Graph) (step : Step) (parent : ℕ) : Type 0 where
  pub earlier : parent < length graph.steps
  pub stays : (own : Step) → HasStep graph parent own → StaysAt step.act own.service step.service

-- The step may be the graph's next: it is sound, is at a service of the graph, and its parents are
-- steps of the graph, at whose service it is where it must be.
pub record MayBeNext (graph : Graph) (step : Step) : Type 0 where
  pub act : IsSoundAct (form_at graph step.service) step.act
  pub service : step.service < length graph.services
  pub parents : (parent : ℕ) → IsIn parent (parents_of step.act) → MayHaveParent graph step parent

-- A graph of a table stays one as it grows by a service that knows slots of the table, by a step
-- that may do under the table what it does, and by a step that is shown.
pub record GraphsOfTablesGrow : Type 0 where
  pub empty : (nodes : Nodes) → IsOfTable nodes empty_graph
  pub service : (nodes : Nodes) (graph : Graph) (service : Service)
      → IsGraph graph → IsOfTable nodes graph → IsViewOf nodes service.view
      → IsOfTable nodes (with_service graph service)
  pub step : (nodes : Nodes) (graph : Graph) (step : Step)
      → IsOfTable nodes graph → IsActOf nodes (view_at graph step.service) step.act
      → IsOfTable nodes (with_step graph step)
  pub show : (nodes : Nodes) (graph : Graph) (n : ℕ)
      → IsOfTable nodes graph → IsOfTable nodes (with_show graph n)
