use Rattle.std.proofs.Common.{length}
use Rattle.fan_in.proofs.forked.+fn-merge_halved-join+arg2+fn-merge_halved-join+arg3+merge_halved.Given as goal

abbrev pub decreases-join+arg2 : goal.decreases-join+arg2
decreases-join+arg2 g l = length l.left.now

abbrev pub decreases-join+arg3 : goal.decreases-join+arg3
decreases-join+arg3 g l = length l.right.now

abbrev pub decreases-merge_halved : goal.decreases-merge_halved
decreases-merge_halved g l = length l.places.now
