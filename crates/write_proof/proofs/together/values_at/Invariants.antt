use Rattle.std.proofs.Common.{take}
use Rattle.scalar_types.specs.Scalars.{value_of}
use Rattle.write_proof.specs.Together.{IsAtKey, values_of}
use Rattle.write_proof.proofs.TogetherCalls.{Gathers}
use Rattle.write_proof.proofs.together.values_at.Given as goal

abbrev pub invariant-loop-map : goal.invariant-loop-map
invariant-loop-map l = Gathers (IsAtKey (value_of l.key)) (values_of (take l.map-index l.maps)) (values_of l.found.items)
