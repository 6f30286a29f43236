use Rattle.bdl_parser.proofs.FirstFault.{one_module}
use Rattle.bdl_parser.proofs.laws.modules_are_unique.Goals as goal

pub returns : goal.returns
returns c = one_module
