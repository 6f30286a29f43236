use Rattle.par_ranks.proofs.Running.{AreRowsRun}
use Rattle.par_ranks.proofs.runs.run_rows.Given as goal

abbrev pub invariant-loop-row : goal.invariant-loop-row
invariant-loop-row g l = AreRowsRun l.run.table.now l.run.graph.now l.rows l.row-index l.lists.items
