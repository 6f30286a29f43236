use Rattle.bag_model.proofs.NamePathLaws as paths
use Rattle.field_table.proofs.laws.name_paths_differ.Goals as goal

pub returns : goal.returns
returns c = paths.name_paths_differ
