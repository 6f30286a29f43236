use Rattle.keep_calls.proofs.KeptLaws.{keep_merges}
use Rattle.keep_calls.proofs.laws.keep_merges.Goals as goal

pub returns : goal.returns
returns c = keep_merges
