use Rattle.write_proof.proofs.OneVerdict.{definite}
use Rattle.write_proof.proofs.laws.lines_are_definite.Goals as goal

pub returns : goal.returns
returns c = definite
