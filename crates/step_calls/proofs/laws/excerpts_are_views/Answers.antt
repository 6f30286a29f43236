use Rattle.step_calls.proofs.ExcerptLaws.{excerpts_are_views}
use Rattle.step_calls.proofs.laws.excerpts_are_views.Goals as goal

pub returns : goal.returns
returns c = excerpts_are_views
