use Rattle.step_calls.proofs.MergeLaws.{merges_give_steps}
use Rattle.step_calls.proofs.laws.merges_give_steps.Goals as goal

pub returns : goal.returns
returns c = merges_give_steps
