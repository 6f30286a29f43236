use Rattle.std.proofs.Common.{length}
use Rattle.byte_calls.proofs.contexts.+read_all_merged.Given as goal

-- proposed from what the function passes where it calls itself
abbrev pub decreases-read_all_merged : goal.decreases-read_all_merged
decreases-read_all_merged l = length l.inputs.now
