use Rattle.wire_bytes.proofs.Offsets.{forms_differ_by_head}
use Rattle.wire_bytes.proofs.laws.forms_differ_by_head.Goals as goal

pub returns : goal.returns
returns c = forms_differ_by_head
