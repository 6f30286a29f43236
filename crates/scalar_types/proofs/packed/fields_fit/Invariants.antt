use Rattle.std.proofs.Common.{◌↔◌, drop}
use Rattle.scalar_types.proofs.PackedSteps.{Fit}
use Rattle.scalar_types.proofs.packed.fields_fit.Given as goal

abbrev pub invariant-loop-at : goal.invariant-loop-at
invariant-loop-at l = Fit l.words l.values ↔ Fit (drop l.at l.words) (drop l.at l.values)
