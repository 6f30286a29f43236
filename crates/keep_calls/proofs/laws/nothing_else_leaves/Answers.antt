use Rattle.keep_calls.proofs.KeptLaws.{nothing_else_leaves}
use Rattle.keep_calls.proofs.laws.nothing_else_leaves.Goals as goal

pub returns : goal.returns
returns c = nothing_else_leaves
