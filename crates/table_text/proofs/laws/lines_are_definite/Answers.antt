use Rattle.table_text.proofs.Definite.{is_definite}
use Rattle.table_text.proofs.laws.lines_are_definite.Goals as goal

pub returns : goal.returns
returns c = is_definite
