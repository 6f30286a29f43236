use Rattle.place_calls.proofs.ChosenLaws.{HoldsFirst}
use Rattle.place_calls.proofs.found.Searched.put_chosen.Given as goal

abbrev pub invariant-loop-at : goal.invariant-loop-at
invariant-loop-at l = HoldsFirst l.self.form l.table l.self.list.now l.chosen l.at l.fn.places l.places
