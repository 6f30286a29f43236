use Rattle.place_calls.proofs.OnePlace.{one_place}
use Rattle.place_calls.proofs.laws.slots_have_one_place.Goals as goal

pub returns : goal.returns
returns c = one_place
