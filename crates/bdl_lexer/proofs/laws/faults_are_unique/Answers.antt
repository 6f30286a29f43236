use Rattle.bdl_lexer.proofs.OneCut.{one_fault}
use Rattle.bdl_lexer.proofs.laws.faults_are_unique.Goals as goal

pub returns : goal.returns
returns c = one_fault
