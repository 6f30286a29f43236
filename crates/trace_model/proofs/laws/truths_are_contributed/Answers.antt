use Rattle.trace_model.proofs.ContributedLaws.{truths_are_contributed}
use Rattle.trace_model.proofs.laws.truths_are_contributed.Goals as goal

pub returns : goal.returns
returns c = truths_are_contributed
