use Rattle.trace_model.proofs.GivenLaws.{gives_contexts}
use Rattle.trace_model.proofs.laws.steps_give_contexts.Goals as goal

pub returns : goal.returns
returns c = gives_contexts
