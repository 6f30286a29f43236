use Rattle.std.proofs.Common.{ℕ, ◌<◌, get_or}
use Rattle.write_proof.specs.Marks.{IsMarked}
use Rattle.write_proof.proofs.whole_rules.has_unmarked.Given as goal

abbrev pub invariant-loop-step : goal.invariant-loop-step
invariant-loop-step l = (k : ℕ) → k < l.step-index → IsMarked l.marks (get_or l.steps k 0)
