use Rattle.step_calls.proofs.CutLaws.{cut_updates_say_joins}
use Rattle.step_calls.proofs.laws.cut_updates_say_joins.Goals as goal

pub returns : goal.returns
returns c = cut_updates_say_joins
