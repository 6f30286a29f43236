use Rattle.bag_value.proofs.Known.{Proper-set}
use Rattle.bag_value.proofs.vals.Val.known.Goals as goal

pub returns-in-Set : goal.returns-in-Set
returns-in-Set c = rw c.in-Set.is (Proper-set c.in-Set.set c.is_bottom.ensures.known)
