use Rattle.atom_list.proofs.WalkLaws.{walks_find_nearest}
use Rattle.atom_list.proofs.laws.walks_find_nearest.Goals as goal

pub returns : goal.returns
returns c = walks_find_nearest
