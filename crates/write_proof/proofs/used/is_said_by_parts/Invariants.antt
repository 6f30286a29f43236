use Rattle.std.proofs.Common.{◌≡◌, map, take}
use Rattle.bag_value.specs.Vals.{plain}
use Rattle.write_proof.specs.Together.{values_of}
use Rattle.write_proof.proofs.used.is_said_by_parts.Given as goal

abbrev pub invariant-loop-part : goal.invariant-loop-part
invariant-loop-part l = values_of l.others.items ≡ map plain (take l.part-index l.parts)
