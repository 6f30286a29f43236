use Rattle.keep_calls.proofs.KeptLaws.{unsaid_is_as_exact}
use Rattle.keep_calls.proofs.laws.unsaid_is_as_exact.Goals as goal

pub returns : goal.returns
returns c = unsaid_is_as_exact
