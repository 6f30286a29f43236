use Rattle.step_calls.proofs.ExcerptLaws.{excerpts_write_alike}
use Rattle.step_calls.proofs.laws.excerpts_write_alike.Goals as goal

pub returns : goal.returns
returns c = excerpts_write_alike
