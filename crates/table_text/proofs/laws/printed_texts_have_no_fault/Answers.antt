use Rattle.table_text.proofs.TableLaws.{no_fault}
use Rattle.table_text.proofs.laws.printed_texts_have_no_fault.Goals as goal

pub returns : goal.returns
returns c = no_fault
