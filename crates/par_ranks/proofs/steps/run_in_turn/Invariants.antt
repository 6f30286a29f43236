use Rattle.par_ranks.proofs.Running.{AreRunTo}
use Rattle.par_ranks.proofs.steps.run_in_turn.Given as goal

abbrev pub invariant-loop-step : goal.invariant-loop-step
invariant-loop-step g l = AreRunTo l.run.table.now l.run.graph.now l.row l.step-index l.fn.lists.items l.lists.items
