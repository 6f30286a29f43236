use Rattle.std.proofs.Common.{◌≡◌, ◌++◌, take}
use Rattle.std.specs.List.{flat_map}
use Rattle.bag_model.specs.Scalars.{escape}
use Rattle.scalar_types.proofs.escapes.put_ended.Given as goal

abbrev pub invariant-loop-byte : goal.invariant-loop-byte
invariant-loop-byte l = l.into.items ≡ l.fn.into.items ++ flat_map escape (take l.byte-index l.bytes)
