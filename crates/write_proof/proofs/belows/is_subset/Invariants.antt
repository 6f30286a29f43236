use Rattle.std.proofs.Common.{◌≡◌, ℕ, ◌<◌, map, Some}
use Rattle.std.specs.List.{slice_get}
use Rattle.context_model.specs.Orders.{IsIn}
use Rattle.scalar_types.specs.Scalars.{value_of}
use Rattle.scalar_types.specs.declared.scalars.Scalar.{Scalar}
use Rattle.write_proof.proofs.belows.is_subset.Given as goal

abbrev pub invariant-loop-at : goal.invariant-loop-at
invariant-loop-at l = (k : ℕ) (v : Scalar) → k < l.at → slice_get l.ours.items k ≡ Some v → IsIn (value_of v) (map value_of l.theirs.items)
