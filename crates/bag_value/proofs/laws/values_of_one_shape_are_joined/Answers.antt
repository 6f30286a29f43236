use Rattle.bag_model.proofs.OfShape.{Alike-shape, IsOfShape-join}
use Rattle.bag_value.proofs.laws.values_of_one_shape_are_joined.Goals as goal

pub returns-clause-alike : goal.returns-clause-alike
returns-clause-alike c = Alike-shape

pub returns-clause-joined : goal.returns-clause-joined
returns-clause-joined c = IsOfShape-join
