use Rattle.context_model.proofs.MergedLaws.{merges_members}
use Rattle.lex_merge.proofs.laws.merges_members.Goals as goal

pub returns : goal.returns
returns c = merges_members
