use Rattle.context_model.proofs.EndedLaws.{ends_at_markers}
use Rattle.atom_list.proofs.laws.ends_at_markers.Goals as goal

pub returns : goal.returns
returns c = ends_at_markers
