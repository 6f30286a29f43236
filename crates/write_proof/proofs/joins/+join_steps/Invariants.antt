use Rattle.std.proofs.Common.{length}
use Rattle.write_proof.proofs.joins.+join_steps.Given as goal

abbrev pub decreases-join_steps : goal.decreases-join_steps
decreases-join_steps l = length l.steps.now
