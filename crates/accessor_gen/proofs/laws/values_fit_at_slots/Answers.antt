use Rattle.bag_walks.proofs.SlotFits.{only_fits}
use Rattle.accessor_gen.proofs.laws.values_fit_at_slots.Goals as goal

pub returns : goal.returns
returns c = only_fits
