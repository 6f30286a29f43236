use Rattle.write_proof.proofs.OneVerdict.{verdicts_are_one}
use Rattle.write_proof.proofs.laws.certificates_have_one_verdict.Goals as goal

pub returns : goal.returns
returns c = verdicts_are_one
