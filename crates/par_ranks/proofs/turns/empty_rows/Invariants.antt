use Rattle.std.proofs.Common.{◌≡◌, ℕ, [], length}
use Rattle.par_ranks.specs.Turns.{row_at}
use Rattle.par_ranks.proofs.turns.empty_rows.Given as goal

abbrev pub invariant-loop : goal.invariant-loop
invariant-loop l = record {
  as_many : length l.rows.items ≡ l.counter;
  empty : (turn : ℕ) → row_at l.rows.items turn ≡ [];
}
