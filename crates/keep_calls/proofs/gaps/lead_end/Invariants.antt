use Rattle.keep_calls.specs.Walk.{LeadOn}
use Rattle.keep_calls.proofs.gaps.lead_end.Given as goal

abbrev pub invariant-loop-at : goal.invariant-loop-at
invariant-loop-at l = LeadOn l.list l.numbers l.level l.from l.at
