use Rattle.std.proofs.Common.{length}
use Rattle.fan_in.proofs.alone.+merge_alone.Given as goal

abbrev pub decreases-merge_alone : goal.decreases-merge_alone
decreases-merge_alone l = length l.places.now
