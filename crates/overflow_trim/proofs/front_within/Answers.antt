use Rattle.std.proofs.Common.{refl, arith}
use Rattle.overflow_trim.proofs.front_within.Goals as goal

pub loop-low-init : goal.loop-low-init
loop-low-init c = record { order = omega arith; within = omega (arith, c.len-high.ensures.len); frames = refl; fits = omega arith }
