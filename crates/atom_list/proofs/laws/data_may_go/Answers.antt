use Rattle.context_model.proofs.EndedLaws.{data_may_go}
use Rattle.atom_list.proofs.laws.data_may_go.Goals as goal

pub returns : goal.returns
returns c = data_may_go
