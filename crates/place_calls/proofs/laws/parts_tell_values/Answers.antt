use Rattle.place_calls.proofs.Readers.{parts_tell_values}
use Rattle.place_calls.proofs.laws.parts_tell_values.Goals as goal

pub returns : goal.returns
returns c = parts_tell_values
