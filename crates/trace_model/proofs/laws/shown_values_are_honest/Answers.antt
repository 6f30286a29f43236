use Rattle.trace_model.proofs.ShownLaws.{shown_is_honest}
use Rattle.trace_model.proofs.laws.shown_values_are_honest.Goals as goal

pub returns : goal.returns
returns c = shown_is_honest
