use Rattle.place_calls.proofs.Framed.{places_hold_frames}
use Rattle.place_calls.proofs.laws.places_hold_frames.Goals as goal

pub returns : goal.returns
returns c = places_hold_frames
