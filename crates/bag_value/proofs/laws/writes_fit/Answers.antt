use Rattle.bag_model.proofs.EachSlot.{only_fits}
use Rattle.bag_value.proofs.laws.writes_fit.Goals as goal

pub returns : goal.returns
returns c = only_fits
