use Rattle.bdl_parser.proofs.Outcomes.{one_fault}
use Rattle.bdl_parser.proofs.laws.faults_are_unique.Goals as goal

pub returns : goal.returns
returns c = one_fault
