use Rattle.trace_model.proofs.FaithfulLaws.{ends_in_parents}
use Rattle.trace_model.proofs.laws.slots_end_in_parents.Goals as goal

pub returns : goal.returns
returns c = ends_in_parents
