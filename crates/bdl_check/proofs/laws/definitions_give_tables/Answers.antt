use Rattle.bdl_check.proofs.SpelledFiles.{table_of_definition}
use Rattle.bdl_check.proofs.laws.definitions_give_tables.Goals as goal

pub returns : goal.returns
returns c = table_of_definition
