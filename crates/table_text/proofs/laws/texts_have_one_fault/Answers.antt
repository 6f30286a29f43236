use Rattle.table_text.proofs.Definite.{one_fault}
use Rattle.table_text.proofs.laws.texts_have_one_fault.Goals as goal

pub returns : goal.returns
returns c = one_fault
