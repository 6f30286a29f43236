use Rattle.keep_calls.proofs.KeptLaws.{kept_slots_say_the_same}
use Rattle.keep_calls.proofs.laws.kept_slots_say_the_same.Goals as goal

pub returns : goal.returns
returns c = kept_slots_say_the_same
