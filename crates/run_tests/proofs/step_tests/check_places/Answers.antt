use Rattle.std.proofs.Common.{arith}
use Rattle.run_tests.proofs.Places.{all_within}
use Rattle.run_tests.proofs.step_tests.check_places.Goals as goal

pub returns-clause-within : goal.returns-clause-within
returns-clause-within g c = all_within c.args.pool.now c.args.places.now (λ k l. c.loop-place.invariant k (omega (arith, l, c.loop-place-test.false)))
