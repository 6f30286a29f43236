use Rattle.bag_model.proofs.JoinUnionLaws.{joins_are_unions}
use Rattle.bag_value.proofs.laws.joins_are_unions.Goals as goal

pub returns : goal.returns
returns c = joins_are_unions
