use Rattle.std.proofs.Common.{◌<◌, length, All}
use Rattle.par_ranks.proofs.turns.are_worth_threads.Given as goal

abbrev pub invariant-loop-turn : goal.invariant-loop-turn
invariant-loop-turn l = All (λ turn. turn < length l.widths.items) l.turns
