use Rattle.std.proofs.Common.{ℕ, ◌<◌, get_or}
use Rattle.place_calls.proofs.chosen.check_chosen.Given as goal

abbrev pub invariant-loop-which : goal.invariant-loop-which
invariant-loop-which l = (k : ℕ) → k < l.which → get_or l.chosen k 0 < l.size
