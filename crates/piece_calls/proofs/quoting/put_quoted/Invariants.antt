use Rattle.std.proofs.Common.{◌++◌, codes, take}
use Rattle.std.specs.List.{flat_map}
use Rattle.text_model.specs.ScalarTexts.{escaped}
use Rattle.byte_forward.specs.Room.{HoldsBytes}
use Rattle.piece_calls.proofs.quoting.put_quoted.Given as goal

abbrev pub invariant-loop-byte : goal.invariant-loop-byte
invariant-loop-byte l = HoldsBytes (codes "\"" ++ flat_map escaped (take l.byte-index l.bytes)) l.at l.fn.room l.room
