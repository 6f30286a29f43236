use Rattle.context_model.proofs.Following.{trimmed-well_formed}
use Rattle.atom_list.proofs.laws.trims_well_formed.Goals as goal

pub returns : goal.returns
returns c = trimmed-well_formed
