use Rattle.wire_bytes.proofs.Offsets.{offsets_stand}
use Rattle.wire_bytes.proofs.laws.offsets_stand.Goals as goal

pub returns : goal.returns
returns c = offsets_stand
