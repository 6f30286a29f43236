use Rattle.step_calls.proofs.AddLaws.{steps_add_up}
use Rattle.step_calls.proofs.laws.steps_add_up.Goals as goal

pub returns : goal.returns
returns c = steps_add_up
