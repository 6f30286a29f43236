use Rattle.std.proofs.Common.{map, arith}
use Rattle.std.proofs.lemmas.Result.{IfOk-weaker}
use Rattle.recorded_graph.specs.Plain.{step_of}
use Rattle.trace_model.specs.Graphs.{Step, HasStep, form_at, view_at}
use Rattle.trace_model.specs.Runs.{list_at, Gives}
use Rattle.graph_runner.proofs.Growing.{places_fit}
use Rattle.par_ranks.specs.Rows.{IsGiven}
use Rattle.par_ranks.proofs.Giving.{given_at}
use Rattle.par_ranks.proofs.steps.run_one.Goals as goal

pub run_step_by-requires-clause-places : goal.run_step_by-requires-clause-places
run_step_by-requires-clause-places g c =
    places_fit c.args.run.now.graph.now c.args.lists.now c.args.step (step_of c.step.result.now) c.parents-parents.result.now c.known.ensures.sound c.step.ensures (omega arith) c.parents-parents.ensures

pub returns : goal.returns
returns g c =
    let nodes = c.args.run.now.table.now in
    let graph = c.args.run.now.graph.now in
    let lists = c.args.lists.now in
    let n = c.args.step in
    let places = c.parents-parents.result.now in
    IfOk-weaker c.run_step_by.result (λ list. (own : Step) → HasStep graph n own → Gives nodes (form_at graph own.service) (view_at graph own.service) own.act (map (list_at lists) places) list) (IsGiven nodes graph lists n)
    (λ list gives. given_at nodes graph lists n (step_of c.step.result.now) places list c.step.ensures c.parents-parents.ensures gives)
    c.run_step_by.ensures.gives
