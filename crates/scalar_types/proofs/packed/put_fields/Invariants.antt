use Rattle.std.proofs.Common.{◌≡◌, ◌++◌, map, drop}
use Rattle.scalar_types.specs.Scalars.{plain_of}
use Rattle.scalar_types.proofs.PackedSteps.{Fit, fields}
use Rattle.scalar_types.proofs.packed.put_fields.Given as goal

abbrev pub invariant-loop-at : goal.invariant-loop-at
invariant-loop-at l = record {
  fit : Fit (drop l.at l.words) (drop l.at l.values);
  so_far : l.into.items ++ fields (drop l.at l.words) (map plain_of (drop l.at l.values)) ≡ l.fn.into.items ++ fields l.words (map plain_of l.values);
}
