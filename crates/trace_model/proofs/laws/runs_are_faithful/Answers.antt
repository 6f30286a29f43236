use Rattle.trace_model.proofs.FaithfulLaws.{runs_are_faithful}
use Rattle.trace_model.proofs.laws.runs_are_faithful.Goals as goal

pub returns : goal.returns
returns c = runs_are_faithful
