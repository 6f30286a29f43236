use Rattle.bag_model.proofs.SpellingOrder.{spellings_keep_order}
use Rattle.scalar_types.proofs.laws.spellings_keep_order.Goals as goal

pub returns : goal.returns
returns c = spellings_keep_order
