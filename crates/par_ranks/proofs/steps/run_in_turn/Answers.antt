use Rattle.std.proofs.Common.{slice_index, refl, subst, arith}
use Rattle.recorded_graph.proofs.Parents.{in_at}
use Rattle.trace_model.specs.Runs.{Lists}
use Rattle.par_ranks.specs.Rows.{IsGiven}
use Rattle.par_ranks.proofs.Running.{one_run, all_run}
use Rattle.par_ranks.proofs.steps.run_in_turn.Goals as goal

pub run_one-requires-clause-step : goal.run_one-requires-clause-step
run_one-requires-clause-step g c κs within =
    let row = c.args.row.now in
    let k = c.loop-step.step-index in
    c.requires.row.within (slice_index row k) (in_at row k c.loop-step-test.true)

pub index_mut-requires : goal.index_mut-requires
index_mut-requires g c =
    let row = c.args.row.now in
    let k = c.loop-step.step-index in
    let within = c.requires.row.within (slice_index row k) (in_at row k c.loop-step-test.true) in
    let many = c.loop-step.invariant.as_many in
    omega (arith, within, many)

pub loop-step-preserved : goal.loop-step-preserved
loop-step-preserved g c =
    let nodes = c.args.run.now.table.now in
    let graph = c.args.run.now.graph.now in
    let row = c.args.row.now in
    let k = c.loop-step.step-index in
    let lists = c.loop-step.lists.items in
    let step = slice_index row k in
    let list = c.in_ok-list.list in
    let within = c.requires.row.within step (in_at row k c.loop-step-test.true) in
    let many = c.loop-step.invariant.as_many in
    let all = c.requires.lists in
    one_run nodes graph row k c.args.lists.now.items lists step list c.requires.row c.loop-step-test.true refl (omega (arith, within, many, all))
    (subst (λ (ls : Lists). IsGiven nodes graph ls step list) c.as_slice.ensures.value c.in_ok-list.ensures) c.loop-step.invariant

pub returns : goal.returns
returns g c =
    all_run c.args.run.now.table.now c.args.run.now.graph.now c.args.row.now c.loop-step.step-index c.args.lists.now.items c.loop-step.lists.items c.loop-step-test.false c.loop-step.invariant
