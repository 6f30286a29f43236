use Rattle.bag_model.proofs.JoinUnionLaws.{bottom_says_nothing}
use Rattle.bag_value.proofs.laws.bottom_says_nothing.Goals as goal

pub returns : goal.returns
returns c = bottom_says_nothing
