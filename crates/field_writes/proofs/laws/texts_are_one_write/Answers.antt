use Rattle.field_writes.proofs.OneWrite.{one_write}
use Rattle.field_writes.proofs.laws.texts_are_one_write.Goals as goal

pub returns : goal.returns
returns c = one_write
