use Rattle.bag_model.proofs.EachSlot.{slots_read_apart}
use Rattle.bag_value.proofs.laws.slots_read_apart.Goals as goal

pub returns : goal.returns
returns c = slots_read_apart
