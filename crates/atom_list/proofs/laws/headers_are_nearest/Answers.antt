use Rattle.context_model.proofs.PathPlaces.{has_nearest_headers}
use Rattle.atom_list.proofs.laws.headers_are_nearest.Goals as goal

pub returns : goal.returns
returns c = has_nearest_headers
