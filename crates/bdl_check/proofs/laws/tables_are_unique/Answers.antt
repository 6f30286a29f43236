use Rattle.bdl_check.proofs.OneOutcome.{tables_one}
use Rattle.bdl_check.proofs.laws.tables_are_unique.Goals as goal

pub returns : goal.returns
returns c = tables_one c.loading_is_unique.ensures
