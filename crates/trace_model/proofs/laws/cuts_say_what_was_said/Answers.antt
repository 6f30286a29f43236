use Rattle.trace_model.proofs.CutReadingLaws.{cuts_say_what_was_said}
use Rattle.trace_model.proofs.laws.cuts_say_what_was_said.Goals as goal

pub returns : goal.returns
returns c = cuts_say_what_was_said
