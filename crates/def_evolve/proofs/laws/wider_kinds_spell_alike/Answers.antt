use Rattle.def_evolve.proofs.Wider.{wider_kinds_spell_alike}
use Rattle.def_evolve.proofs.laws.wider_kinds_spell_alike.Goals as goal

pub returns : goal.returns
returns c = wider_kinds_spell_alike
