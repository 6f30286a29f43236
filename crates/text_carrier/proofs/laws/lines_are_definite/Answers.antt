use Rattle.text_carrier.proofs.Definite.{is_definite}
use Rattle.text_carrier.proofs.laws.lines_are_definite.Goals as goal

pub returns : goal.returns
returns c = is_definite
