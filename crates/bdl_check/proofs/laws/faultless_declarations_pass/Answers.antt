use Rattle.bdl_check.specs.Declarations.{all_placed}
use Rattle.bdl_check.proofs.PassLaws.{faultless_pass}
use Rattle.bdl_check.proofs.laws.faultless_declarations_pass.Goals as goal

pub returns : goal.returns
returns c = λ files. faultless_pass (all_placed files)
