use Rattle.wire_bytes.proofs.Ends.{form_two_ends}
use Rattle.wire_bytes.proofs.laws.form_two_ends.Goals as goal

pub returns : goal.returns
returns c = form_two_ends
