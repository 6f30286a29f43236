use Rattle.context_model.proofs.FirstFaults as faults
use Rattle.wire_bytes.proofs.reading.reads_one_way.Goals as goal

pub returns : goal.returns
returns c = faults.reads_one_way
