use Rattle.step_calls.proofs.JoinLaws.{updates_read_as_joins}
use Rattle.step_calls.proofs.laws.updates_read_as_joins.Goals as goal

pub returns : goal.returns
returns c = updates_read_as_joins
