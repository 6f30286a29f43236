use Rattle.context_model.proofs.MergedLaws.{merges_in_groups}
use Rattle.lex_merge.proofs.laws.merges_in_groups.Goals as goal

pub returns : goal.returns
returns c = merges_in_groups
