-- What the laws of graphs say of one run.
use Rattle.std.proofs.Common.{ℕ, ◌<◌, length, arith}
use Rattle.bag_model.specs.Shapes.{Nodes}
use Rattle.trace_model.specs.Graphs.{Graph, IsRecorded, IsTypedContext}
use Rattle.trace_model.specs.Runs.{Lists, list_at, IsRun}
use Rattle.trace_model.specs.Truth.{SameWritesReachAlike}
use Rattle.trace_model.specs.Faithful.{IsRunStep, IsFaithful, AlikeStepsSayTheSame}
use Rattle.graph_runner.specs.Runs.{AlikeStepsAgree}

pub run_step_of : (nodes : Nodes) (graph : Graph) (lists : Lists) → IsRecorded nodes graph → IsRun nodes graph lists → (n : ℕ) → n < length graph.steps → IsRunStep nodes graph lists n
run_step_of nodes graph lists recorded run n within = record { recorded = recorded; run = run; within = within }

pub steps_agree : (nodes : Nodes) (graph : Graph) (lists : Lists) → IsRecorded nodes graph → IsRun nodes graph lists → SameWritesReachAlike → AlikeStepsSayTheSame → AlikeStepsAgree nodes graph lists
steps_agree nodes graph lists recorded run reach say = record {
  slot = λ n m place at v w alike. say.slot nodes graph graph lists lists n m place at v w
      (run_step_of nodes graph lists recorded run n alike.one) (run_step_of nodes graph lists recorded run m alike.other)
      (reach nodes graph n graph m alike.reached);
  whole = λ n m vs ws alike. say.whole nodes graph graph lists lists n m vs ws
      (run_step_of nodes graph lists recorded run n alike.one) (run_step_of nodes graph lists recorded run m alike.other)
      (reach nodes graph n graph m alike.reached);
}

-- Faithful lists are typed contexts.
pub all_typed : (nodes : Nodes) (graph : Graph) (lists : Lists) → IsRun nodes graph lists → ((n : ℕ) → n < length graph.steps → IsFaithful nodes graph lists n)
    → (n : ℕ) → n < length lists → IsTypedContext nodes (list_at lists n)
all_typed nodes graph lists run faithful n within =
    let f = faithful n (omega (arith, within, run.as_many)) in
    record { well_formed = f.well_formed; typed = f.typed }
