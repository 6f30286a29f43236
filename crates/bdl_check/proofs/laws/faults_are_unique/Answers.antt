use Rattle.bdl_check.proofs.OneOutcome.{faults_one}
use Rattle.bdl_check.proofs.laws.faults_are_unique.Goals as goal

pub returns : goal.returns
returns c = faults_one c.loading_is_unique.ensures
