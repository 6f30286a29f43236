use Rattle.context_model.proofs.MergedLaws.{merges_one_by_one}
use Rattle.lex_merge.proofs.laws.merges_one_by_one.Goals as goal

pub returns : goal.returns
returns c = merges_one_by_one
