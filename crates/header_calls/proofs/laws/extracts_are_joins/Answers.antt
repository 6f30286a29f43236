use Rattle.header_calls.proofs.Joins.{extracts_are_joins}
use Rattle.header_calls.proofs.laws.extracts_are_joins.Goals as goal

pub returns : goal.returns
returns c = extracts_are_joins
