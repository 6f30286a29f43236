use Rattle.bdl_load.proofs.OneSource.{says_one}
use Rattle.bdl_load.proofs.OneLoading.{loads_one}
use Rattle.bdl_load.proofs.laws.loading_is_unique.Goals as goal

pub returns : goal.returns
returns c = loads_one (says_one c.tokens_are_unique.ensures c.tokens_exclude_faults.ensures c.faults_are_unique.ensures c.modules_are_unique.ensures c.modules_exclude_faults.ensures c.faults_are_unique-2.ensures)
