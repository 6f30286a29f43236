use Rattle.std.proofs.Common.{[], ◌∷◌, codes, arith}
use Rattle.hex.specs.Hex.{encode_lower}
use Rattle.piece_calls.proofs.Rooms.{place_left, put_behind}
use Rattle.piece_calls.proofs.quoting.put_control.Goals as goal

pub put_digits-requires : goal.put_digits-requires
put_digits-requires c = omega (arith, place_left (codes "\\x") c.args.room.now c.put-at.new.room c.put-at.result c.put-at.ensures, c.requires)

pub returns : goal.returns
returns c =
    put_behind (codes "\\x") (encode_lower (c.args.byte ∷ [])) c.args.room.now c.put-at.new.room c.put_digits.new.room c.put-at.result c.put_digits.result c.put-at.ensures
    c.put_digits.ensures
