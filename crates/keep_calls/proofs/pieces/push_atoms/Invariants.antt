use Rattle.std.proofs.Common.{◌≡◌, ◌++◌}
use Rattle.std.specs.Prelude.{slice_range}
use Rattle.keep_calls.proofs.pieces.push_atoms.Given as goal

abbrev pub invariant-loop-at : goal.invariant-loop-at
invariant-loop-at l = l.built.atoms ≡ l.initial.built.atoms ++ slice_range l.list l.from l.at
