use Rattle.def_evolve.proofs.OneVerdict.{one_verdict}
use Rattle.def_evolve.proofs.laws.tables_have_one_verdict.Goals as goal

pub returns : goal.returns
returns c = one_verdict
