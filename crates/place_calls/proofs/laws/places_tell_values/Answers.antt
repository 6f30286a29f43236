use Rattle.place_calls.proofs.Readers.{places_tell_values}
use Rattle.place_calls.proofs.laws.places_tell_values.Goals as goal

pub returns : goal.returns
returns c = places_tell_values
