use Rattle.context_model.proofs.ShapeLaws.{has_one_shape}
use Rattle.atom_list.proofs.laws.faults_once.Goals as goal

pub returns : goal.returns
returns c = has_one_shape
