-- The graphs of the code as plain ones.
use Rattle.std.specs.Prelude.{ℕ, ◌≤◌, List, length, map}
use Rattle.field_table.specs.Views.{plain_view_of}
use Rattle.bag_value.specs.Vals.{plain}
use Rattle.trace_model.specs.Graphs as model
use Rattle.recorded_graph.specs.declared.graphs.TheConstants.{STEPS_MAX}
use Rattle.recorded_graph.specs.declared.steps.Act.{Act}
use Rattle.recorded_graph.specs.declared.steps.Act.TheVariants.{Start, Recv, Set, Branch, Forward, Trim, Join}
use Rattle.recorded_graph.specs.declared.steps.Service.{Service}
use Rattle.recorded_graph.specs.declared.steps.Step.{Step}

-- The plain act.
abbrev pub act_of : Act → model.Act
act_of Start = model.Act.Start
act_of (Recv received) = model.Act.Recv received
act_of (Set parent slot write) = model.Act.Set parent slot (plain write)
act_of (Branch parent) = model.Act.Branch parent
act_of (Forward parent) = model.Act.Forward parent
act_of (Trim parent budget) = model.Act.Trim parent budget
act_of (Join parents) = model.Act.Join parents

-- The plain service.
abbrev pub service_of : Service → model.Service
service_of service =
    record { name = service.name; form = service.form; view = plain_view_of service.view }

-- The plain step.
abbrev pub step_of : Step → model.Step
step_of step = record { service = step.service; act = act_of step.act }

-- The plain graph of some services, steps and shown steps.
abbrev pub plain_graph : List Service → List Step → List ℕ → model.Graph
plain_graph services steps shows =
    record { services = map service_of services; steps = map step_of steps; shows = shows }

-- The graph is sound, and has no more steps than a graph may have.
pub record IsKeptGraph (graph : model.Graph) : Type 0 where
  pub sound : model.IsGraph graph
  pub few : length graph.steps ≤ STEPS_MAX
