use Rattle.trace_model.specs.Runs.{RunsTo}
use Rattle.graph_runner.proofs.runs.lists_of.Given as goal

abbrev pub invariant-loop-number : goal.invariant-loop-number
invariant-loop-number g l = RunsTo l.table l.graph l.lists.items l.number
