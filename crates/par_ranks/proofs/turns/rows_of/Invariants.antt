use Rattle.std.proofs.Common.{◌<◌, length, All}
use Rattle.par_ranks.specs.Turns.{AreRows}
use Rattle.par_ranks.proofs.turns.rows_of.Given as goal

abbrev pub invariant-loop-number : goal.invariant-loop-number
invariant-loop-number l = record {
  wide : All (λ turn. turn < length l.rows.items) l.turns;
  rows : AreRows l.turns l.number l.rows.items;
}
