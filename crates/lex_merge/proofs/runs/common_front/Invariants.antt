use Rattle.lex_merge.specs.Runs.{IsMergeRun}
use Rattle.lex_merge.proofs.runs.common_front.Given as goal

abbrev pub invariant-loop-at : goal.invariant-loop-at
invariant-loop-at l = record {
  first : IsMergeRun l.a 0 l.b 0 l.at l.at;
  second : IsMergeRun l.b 0 l.a 0 l.at l.at;
}
