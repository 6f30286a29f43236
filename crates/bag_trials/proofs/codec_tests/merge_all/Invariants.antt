use Rattle.std.proofs.Common.{vec_len}
use Rattle.bag_trials.proofs.codec_tests.merge_all.Given as goal

abbrev pub decreases-loop-alloc : goal.decreases-loop-alloc
decreases-loop-alloc l = vec_len l.contexts
