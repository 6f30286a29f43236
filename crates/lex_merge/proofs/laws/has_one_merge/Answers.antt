use Rattle.context_model.proofs.MergedLaws.{has_one_merge}
use Rattle.lex_merge.proofs.laws.has_one_merge.Goals as goal

pub returns : goal.returns
returns c = has_one_merge
