use Rattle.keep_calls.proofs.KeptLaws.{keeps_contexts}
use Rattle.keep_calls.proofs.laws.keeps_contexts.Goals as goal

pub returns : goal.returns
returns c = keeps_contexts
