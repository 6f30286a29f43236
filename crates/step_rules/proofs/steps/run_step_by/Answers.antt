use Rattle.std.proofs.Common.{map}
use Rattle.std.proofs.lemmas.Result.{IfOk-weaker}
use Rattle.recorded_graph.specs.Plain.{service_of, step_of}
use Rattle.trace_model.specs.Graphs.{Step, HasStep, form_at, view_at, IsTypedContext}
use Rattle.trace_model.specs.Runs.{list_at, Gives}
use Rattle.step_rules.proofs.Slots.{act_of_view, sound_at, given_by}
use Rattle.step_rules.proofs.steps.run_step_by.Goals as goal

pub service-service-requires : goal.service-service-requires
service-service-requires g c = c.known.ensures.sound.services c.args.step (step_of c.step-own.result.now) c.step-own.ensures

pub give-requires : goal.give-requires
give-requires g c =
    let own = step_of c.step-own.result.now in
    record {
      ready = c.requires.ready;
      sound = sound_at c.args.graph.now own (service_of c.service-service.result.now) c.service-service.ensures (c.known.ensures.sound.acts c.args.step own c.step-own.ensures);
      may = act_of_view c.args.table.now c.args.graph.now own (service_of c.service-service.result.now) c.service-service.ensures (c.requires.table.acts c.args.step own c.step-own.ensures);
      places = c.requires.places own c.step-own.ensures;
    }

pub returns-clause-gives : goal.returns-clause-gives
returns-clause-gives g c =
    let nodes = c.args.table.now in
    let graph = c.args.graph.now in
    let own = step_of c.step-own.result.now in
    let service = service_of c.service-service.result.now in
    let parents = map (list_at c.args.pool.now) c.args.places.now in
    IfOk-weaker c.give.result (Gives nodes service.form service.view own.act parents)
    (λ list. (step : Step) → HasStep graph c.args.step step → Gives nodes (form_at graph step.service) (view_at graph step.service) step.act parents list)
    (λ list gives. given_by nodes graph c.args.step own service parents list c.step-own.ensures c.service-service.ensures gives)
    c.give.ensures

pub returns-clause-typed : goal.returns-clause-typed
returns-clause-typed g c =
    let nodes = c.args.table.now in
    let graph = c.args.graph.now in
    let own = step_of c.step-own.result.now in
    let service = service_of c.service-service.result.now in
    let parents = map (list_at c.args.pool.now) c.args.places.now in
    let may = act_of_view nodes graph own service c.service-service.ensures (c.requires.table.acts c.args.step own c.step-own.ensures) in
    λ typed. IfOk-weaker c.give.result (Gives nodes service.form service.view own.act parents) (IsTypedContext nodes)
    (λ list gives. c.steps_give_contexts.ensures nodes service.form service.view own.act parents list c.nodes.ensures.table may typed gives)
    c.give.ensures
