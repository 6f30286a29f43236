use Rattle.context_model.proofs.MergedLaws.{merges_greedily}
use Rattle.lex_merge.proofs.laws.merges_greedily.Goals as goal

pub returns : goal.returns
returns c = merges_greedily
