use Rattle.std.proofs.Common.{◌≡◌, take}
use Rattle.scalar_types.proofs.scalars.ScalarList.copy.Given as goal

abbrev pub invariant-loop-scalar : goal.invariant-loop-scalar
invariant-loop-scalar l = l.copied.items ≡ take l.scalar-index l.scalar-items
