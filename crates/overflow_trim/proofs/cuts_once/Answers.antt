use Rattle.context_model.proofs.TrimmedLaws as laws
use Rattle.overflow_trim.proofs.cuts_once.Goals as goal

pub returns : goal.returns
returns c = laws.cuts_once
