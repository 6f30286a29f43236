use Rattle.context_model.proofs.TrimmedLaws as laws
use Rattle.overflow_trim.proofs.keeps_longest.Goals as goal

pub returns : goal.returns
returns c = laws.keeps_longest
