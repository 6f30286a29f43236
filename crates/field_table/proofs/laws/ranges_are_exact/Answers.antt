use Rattle.bag_model.proofs.NamePathLaws as paths
use Rattle.field_table.proofs.laws.ranges_are_exact.Goals as goal

pub returns : goal.returns
returns c = paths.ranges_are_exact
