use Rattle.std.proofs.Common.{codes, arith}
use Rattle.hex.specs.Hex.{encode_lower, lower_digits}
use Rattle.hex.proofs.HexLemmas.{length-encode_with}
use Rattle.piece_calls.proofs.Rooms.{place_left, put_behind}
use Rattle.piece_calls.proofs.quoting.put_bytes.Goals as goal

pub put_digits-requires : goal.put_digits-requires
put_digits-requires c =
    omega (arith, place_left (codes "0x") c.args.room.now c.put-at.new.room c.put-at.result c.put-at.ensures, length-encode_with lower_digits c.args.bytes.now, c.requires)

pub returns : goal.returns
returns c =
    put_behind (codes "0x") (encode_lower c.args.bytes.now) c.args.room.now c.put-at.new.room c.put_digits.new.room c.put-at.result c.put_digits.result c.put-at.ensures
    c.put_digits.ensures
