use Rattle.keep_calls.proofs.BudgetLaws.{cuts_are_told_within}
use Rattle.keep_calls.proofs.laws.cuts_are_told_within.Goals as goal

pub returns : goal.returns
returns c = cuts_are_told_within
