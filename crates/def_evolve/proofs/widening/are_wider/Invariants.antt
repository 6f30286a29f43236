use Rattle.std.proofs.Common.{drop, ◌↔◌}
use Rattle.def_evolve.specs.Widening.{AreWider}
use Rattle.def_evolve.proofs.widening.are_wider.Given as goal

abbrev pub invariant-loop-at : goal.invariant-loop-at
invariant-loop-at l = AreWider l.words l.more ↔ AreWider (drop l.at l.words) (drop l.at l.more)
