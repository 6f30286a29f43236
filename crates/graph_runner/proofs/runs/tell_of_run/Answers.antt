use Rattle.graph_runner.proofs.Agreeing.{run_step_of, steps_agree, all_typed}
use Rattle.trace_model.specs.Graphs.{IsRecorded}
use Rattle.graph_runner.proofs.runs.tell_of_run.Goals as goal

pub returns-clause-faithful : goal.returns-clause-faithful
returns-clause-faithful c =
    let nodes = c.args.table.now in
    let graph = c.args.graph.now in
    let recorded : IsRecorded nodes graph = record { table = c.nodes.ensures.table; sound = c.known.ensures.sound; fits = c.requires.table } in
    λ n within. c.runs_are_faithful.ensures nodes graph c.args.lists.now n (run_step_of nodes graph c.args.lists.now recorded c.requires.run n within)

pub returns-clause-alike : goal.returns-clause-alike
returns-clause-alike c =
    let nodes = c.args.table.now in
    let graph = c.args.graph.now in
    let recorded : IsRecorded nodes graph = record { table = c.nodes.ensures.table; sound = c.known.ensures.sound; fits = c.requires.table } in
    steps_agree nodes graph c.args.lists.now recorded c.requires.run c.same_writes_read_alike.ensures.reach c.same_writes_read_alike.ensures.say

pub returns-clause-typed : goal.returns-clause-typed
returns-clause-typed c =
    let nodes = c.args.table.now in
    let graph = c.args.graph.now in
    let recorded : IsRecorded nodes graph = record { table = c.nodes.ensures.table; sound = c.known.ensures.sound; fits = c.requires.table } in
    all_typed nodes graph c.args.lists.now c.requires.run
    (λ n within. c.runs_are_faithful.ensures nodes graph c.args.lists.now n (run_step_of nodes graph c.args.lists.now recorded c.requires.run n within))
