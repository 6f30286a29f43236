use Rattle.keep_calls.proofs.KeptLaws.{keeps_once}
use Rattle.keep_calls.proofs.laws.keeps_once.Goals as goal

pub returns : goal.returns
returns c = keeps_once
