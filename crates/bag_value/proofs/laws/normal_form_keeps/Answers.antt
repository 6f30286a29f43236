use Rattle.bag_model.proofs.NormalFormLaws.{normal_form_keeps}
use Rattle.bag_value.proofs.laws.normal_form_keeps.Goals as goal

pub returns : goal.returns
returns c = normal_form_keeps
