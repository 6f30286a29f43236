use Rattle.context_model.proofs.MergedLaws.{merges_of_merges}
use Rattle.lex_merge.proofs.laws.merges_of_merges.Goals as goal

pub returns : goal.returns
returns c = merges_of_merges
