use Rattle.std.proofs.Common.{ℕ, ◌<◌, slice_index}
use Rattle.par_ranks.proofs.turns.turns_count.Given as goal

abbrev pub invariant-loop-turn : goal.invariant-loop-turn
invariant-loop-turn l = (k : ℕ) → k < l.turn-index → slice_index l.turns k < l.count
