use Rattle.std.proofs.Common.{◌≡◌, ℕ, ◌+◌, length, map, ap, sym, ◌∙◌, subst, arith}
use Rattle.recorded_graph.specs.Plain.{step_of}
use Rattle.trace_model.specs.Graphs.{Step, HasStep, form_at, view_at, IsRecorded}
use Rattle.trace_model.specs.Runs.{Lists, list_at, Gives, RunsTo}
use Rattle.graph_runner.proofs.Growing.{places_fit, run_grows}
use Rattle.graph_runner.proofs.runs.lists_of.Goals as goal

pub loop-number-init : goal.loop-number-init
loop-number-init g c =
    subst (λ (lists : Lists). RunsTo c.args.table.now c.args.graph.now lists 0) (sym c.new-lists.ensures.items)
    (c.graphs_have_one_run.ensures.grow.none c.args.table.now c.args.graph.now)

pub run_step_alone-requires-clause-places : goal.run_step_alone-requires-clause-places
run_step_alone-requires-clause-places g c =
    let many = ap length c.as_slice.ensures.value ∙ c.loop-number.invariant.as_many in
    places_fit c.args.graph.now c.as_slice.result.now c.loop-number.number (step_of c.step-own.result.now) c.parents-parents.result.now c.known.ensures.sound c.step-own.ensures
    (omega (arith, many)) c.parents-parents.ensures

pub loop-number-preserved : goal.loop-number-preserved
loop-number-preserved g c =
    let nodes = c.args.table.now in
    let graph = c.args.graph.now in
    let n = c.loop-number.number in
    let lists = c.loop-number.lists.items in
    let places = c.parents-parents.result.now in
    let list = c.in_ok-list.list in
    let recorded : IsRecorded nodes graph = record { table = c.nodes.ensures.table; sound = c.known.ensures.sound; fits = c.requires } in
    let gives : (own : Step) → HasStep graph n own → Gives nodes (form_at graph own.service) (view_at graph own.service) own.act (map (list_at lists) places) list =
    subst (λ (pool : Lists). (own : Step) → HasStep graph n own → Gives nodes (form_at graph own.service) (view_at graph own.service) own.act (map (list_at pool) places) list) c.as_slice.ensures.value c.in_ok-list.ensures.gives in
    subst (λ (after : Lists). RunsTo nodes graph after (n + 1)) (sym c.in_ok-push.ensures.items)
    (run_grows c.graphs_have_one_run.ensures.grow nodes graph lists n (step_of c.step-own.result.now) places list recorded c.loop-number.invariant c.step-own.ensures c.parents-parents.ensures gives)

pub returns : goal.returns
returns g c =
    let all : c.loop-number.number ≡ length (c.args.graph.now).steps = omega (arith, c.loop-number-test.false, c.loop-number.auto.number-end, c.steps-number-end.ensures) in
    subst (λ (k : ℕ). RunsTo c.args.table.now c.args.graph.now c.loop-number.lists.items k) all c.loop-number.invariant
