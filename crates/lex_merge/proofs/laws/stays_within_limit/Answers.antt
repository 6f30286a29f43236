use Rattle.context_model.proofs.MergedLaws.{stays_within_limit}
use Rattle.lex_merge.proofs.laws.stays_within_limit.Goals as goal

pub returns : goal.returns
returns c = stays_within_limit
