use Rattle.bdl_parser.proofs.Outcomes.{module_or_fault}
use Rattle.bdl_parser.proofs.laws.modules_exclude_faults.Goals as goal

pub returns : goal.returns
returns c = module_or_fault
