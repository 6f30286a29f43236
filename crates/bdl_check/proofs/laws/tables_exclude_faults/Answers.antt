use Rattle.bdl_check.proofs.OneOutcome.{tables_exclude}
use Rattle.bdl_check.proofs.laws.tables_exclude_faults.Goals as goal

pub returns : goal.returns
returns c = tables_exclude c.loading_is_unique.ensures
