use Rattle.lex_merge.specs.Runs.{IsMergeRun}
use Rattle.lex_merge.proofs.runs.run_end.Given as goal

abbrev pub invariant-loop-other : goal.invariant-loop-other
invariant-loop-other l = IsMergeRun l.a l.i l.b l.j l.next l.other
