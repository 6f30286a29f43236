use Rattle.std.proofs.Common.{ℕ, ◌<◌, length, get_or}
use Rattle.run_tests.proofs.step_tests.check_places.Given as goal

abbrev pub invariant-loop-place : goal.invariant-loop-place
invariant-loop-place g l = (k : ℕ) → k < l.place-index → get_or l.places k 0 < length l.pool
