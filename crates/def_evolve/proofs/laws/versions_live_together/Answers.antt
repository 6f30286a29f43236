use Rattle.def_evolve.proofs.TwoVersions.{live_together}
use Rattle.def_evolve.proofs.laws.versions_live_together.Goals as goal

pub returns : goal.returns
returns c = live_together
