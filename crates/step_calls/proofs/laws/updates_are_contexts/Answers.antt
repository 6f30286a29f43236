use Rattle.step_calls.proofs.StepLaws.{updates_are_contexts}
use Rattle.step_calls.proofs.laws.updates_are_contexts.Goals as goal

pub returns : goal.returns
returns c = updates_are_contexts
