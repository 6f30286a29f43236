use Rattle.step_calls.proofs.ExcerptLaws.{excerpts_are_typed}
use Rattle.step_calls.proofs.laws.excerpts_are_typed.Goals as goal

pub returns : goal.returns
returns c = excerpts_are_typed
