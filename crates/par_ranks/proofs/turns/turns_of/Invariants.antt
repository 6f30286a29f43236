use Rattle.std.proofs.Common.{◌≡◌, length}
use Rattle.par_ranks.specs.Turns.{AreTurns}
use Rattle.par_ranks.proofs.turns.turns_of.Given as goal

abbrev pub invariant-loop-number : goal.invariant-loop-number
invariant-loop-number l = record {
  as_many : length l.turns.items ≡ l.number;
  turns : AreTurns l.graph l.turns.items;
}
