use Rattle.def_evolve.proofs.Safe.{is_safe}
use Rattle.def_evolve.proofs.laws.fitting_tables_are_safe.Goals as goal

pub returns : goal.returns
returns c = is_safe
