use Rattle.bag_model.proofs.Existence.{typed_lists_say}
use Rattle.bag_value.proofs.laws.typed_lists_say.Goals as goal

pub returns : goal.returns
returns c = typed_lists_say
