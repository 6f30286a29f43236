use Rattle.write_proof.proofs.Sound.{accepted_tells_truth}
use Rattle.write_proof.proofs.laws.certificates_that_verify_tell_the_truth.Goals as goal

pub returns : goal.returns
returns c = accepted_tells_truth
