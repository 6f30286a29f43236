use Rattle.step_calls.proofs.LostLaws.{nothing_is_ended}
use Rattle.step_calls.proofs.laws.nothing_is_ended.Goals as goal

pub returns : goal.returns
returns c = nothing_is_ended
