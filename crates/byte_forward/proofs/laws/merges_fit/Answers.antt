use Rattle.byte_forward.proofs.Fitting as laws
use Rattle.byte_forward.proofs.laws.merges_fit.Goals as goal

pub returns : goal.returns
returns c = laws.merges_fit
