use Rattle.bdl_load.proofs.OneSource.{says_one}
use Rattle.bdl_load.proofs.Fronts.{first_is_front}
use Rattle.bdl_load.proofs.laws.first_names_are_a_front.Goals as goal

pub returns : goal.returns
returns c = first_is_front (says_one c.tokens_are_unique.ensures c.tokens_exclude_faults.ensures c.faults_are_unique.ensures c.modules_are_unique.ensures c.modules_exclude_faults.ensures c.faults_are_unique-2.ensures)
