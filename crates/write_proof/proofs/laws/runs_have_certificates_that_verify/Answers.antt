use Rattle.write_proof.proofs.Complete.{certificates_verify}
use Rattle.write_proof.proofs.laws.runs_have_certificates_that_verify.Goals as goal

pub returns : goal.returns
returns c = certificates_verify
