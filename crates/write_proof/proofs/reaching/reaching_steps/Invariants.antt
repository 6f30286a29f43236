use Rattle.write_proof.specs.Reaching.{pairs_of}
use Rattle.write_proof.proofs.Reached.{AreReachedTo}
use Rattle.write_proof.proofs.reaching.reaching_steps.Given as goal

abbrev pub invariant-loop-step : goal.invariant-loop-step
invariant-loop-step l = AreReachedTo l.graph l.last l.step (pairs_of l.reaching.items)
