use Rattle.lex_merge.specs.Runs.{IsMergeRun}
use Rattle.lex_merge.proofs.runs.run_to.Given as goal

abbrev pub invariant-loop-at : goal.invariant-loop-at
invariant-loop-at l = IsMergeRun l.a l.i l.b l.j l.at l.j
