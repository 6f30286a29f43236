use Rattle.keep_calls.proofs.KeptLaws.{cuts_are_told}
use Rattle.keep_calls.proofs.laws.cuts_are_told.Goals as goal

pub returns : goal.returns
returns c = cuts_are_told
