use Rattle.trace_model.proofs.ShownLaws.{same_writes_reach_alike}
use Rattle.trace_model.proofs.FaithfulLaws.{alike_steps_say_the_same}
use Rattle.trace_model.proofs.laws.same_writes_read_alike.Goals as goal

pub returns-clause-reach : goal.returns-clause-reach
returns-clause-reach c = same_writes_reach_alike

pub returns-clause-say : goal.returns-clause-say
returns-clause-say c = alike_steps_say_the_same
