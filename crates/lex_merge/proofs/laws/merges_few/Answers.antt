use Rattle.context_model.proofs.MergedLaws.{merges_few}
use Rattle.lex_merge.proofs.laws.merges_few.Goals as goal

pub returns : goal.returns
returns c = merges_few
