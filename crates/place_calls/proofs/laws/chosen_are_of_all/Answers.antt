use Rattle.place_calls.proofs.ChosenLaws.{chosen_of_all}
use Rattle.place_calls.proofs.laws.chosen_are_of_all.Goals as goal

pub returns : goal.returns
returns c = chosen_of_all
