use Rattle.std.proofs.Common.{◌≡◌, ◌+◌, drop}
use Rattle.bag_codec.proofs.Rooms.{escaped}
use Rattle.bag_codec.proofs.lengths.behind_ended.Given as goal

abbrev pub invariant-loop-byte : goal.invariant-loop-byte
invariant-loop-byte l = escaped l.bytes + 2 + l.left ≡ l.fn.room + escaped (drop l.byte-index l.bytes)
