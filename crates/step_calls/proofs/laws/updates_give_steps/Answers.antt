use Rattle.step_calls.proofs.StepLaws.{updates_give_steps}
use Rattle.step_calls.proofs.laws.updates_give_steps.Goals as goal

pub returns : goal.returns
returns c = updates_give_steps
