use Rattle.std.proofs.Common.{ℕ, ◌*◌, ◌<◌, ◌≤◌, length, slice_index}
use Rattle.par_ranks.proofs.turns.turn_after.Given as goal

abbrev pub invariant-loop-parent : goal.invariant-loop-parent
invariant-loop-parent l = record {
  low : l.rank ≤ length l.turns;
  later : (k : ℕ) → k < l.parent-index → slice_index l.turns (slice_index l.parents k) < 2 * l.rank;
}
