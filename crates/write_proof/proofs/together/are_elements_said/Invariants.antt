use Rattle.std.proofs.Common.{◌≡◌, ℕ, ◌<◌, Some}
use Rattle.std.specs.List.{slice_get}
use Rattle.scalar_types.specs.Scalars.{value_of}
use Rattle.scalar_types.specs.declared.scalars.Scalar.{Scalar}
use Rattle.write_proof.specs.Together.{IsSaid, HasElement, values_of}
use Rattle.write_proof.proofs.together.are_elements_said.Given as goal

abbrev pub invariant-loop-at : goal.invariant-loop-at
invariant-loop-at l = (k : ℕ) (v : Scalar) → k < l.at → slice_get l.set.items k ≡ Some v → IsSaid (HasElement (value_of v)) (values_of l.others)
