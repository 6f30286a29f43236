use Rattle.std.proofs.Common.{refl}
use Rattle.bag_model.specs.Shapes.{Bag}
use Rattle.def_evolve.proofs.BreakSteps.{first_told, none_told, no_breaks}
use Rattle.def_evolve.proofs.laws.verdicts_tell_the_first_break.Goals as goal

pub returns-clause-first : goal.returns-clause-first
returns-clause-first c = λ old new told more all. (told.way, first_told (Bag old) (Bag new) told more all, refl)

pub returns-clause-none : goal.returns-clause-none
returns-clause-none c = λ old new. (none_told (Bag old) (Bag new), no_breaks (Bag old) (Bag new))
