use Rattle.bag_model.proofs.MergeReadingLaws.{merges_read_as_joins}
use Rattle.bag_value.proofs.laws.merges_read_as_joins.Goals as goal

pub returns : goal.returns
returns c = merges_read_as_joins
