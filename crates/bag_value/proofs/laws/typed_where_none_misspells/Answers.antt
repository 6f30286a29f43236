use Rattle.bag_model.proofs.IllTyped.{typed_where_none_misspells}
use Rattle.bag_value.proofs.laws.typed_where_none_misspells.Goals as goal

pub returns : goal.returns
returns c = typed_where_none_misspells
