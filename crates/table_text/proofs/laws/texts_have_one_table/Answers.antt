use Rattle.table_text.proofs.TableLaws.{one_printed}
use Rattle.table_text.proofs.laws.texts_have_one_table.Goals as goal

pub returns : goal.returns
returns c = one_printed
