use Rattle.std.proofs.Common.{◌≡◌, ◌-◌, ◌*◌, ◌≤◌, false, nat_lt, ◌∙◌, sym, arith}
use Rattle.std.proofs.lemmas.Bool.Decides.{nat_tests}
use Rattle.context_model.specs.declared.TheConstants.{LENGTH_MAX}
use Rattle.wire_bytes.proofs.Widths.{room_of-least, light_narrow}
use Rattle.wire_bytes.proofs.writing.is_long.Goals as goal

pub overflow_mul-len : goal.overflow_mul-len
overflow_mul-len c = omega (arith, room_of-least c.args.list.now, c.len.ensures.len, c.requires, c.ranges.room)

pub overflow_sub-room : goal.overflow_sub-room
overflow_sub-room c = omega (arith, room_of-least c.args.list.now, c.len.ensures.len, c.requires)

pub returns-else-room-len-gt-LENGTH_MAX : goal.returns-else-room-len-gt-LENGTH_MAX
returns-else-room-len-gt-LENGTH_MAX c =
    let few : c.args.room - 3 * c.len.result ≤ LENGTH_MAX = omega arith in
    let less : nat_lt LENGTH_MAX (c.args.room - 3 * c.len.result) ≡ false = grind (arith, nat_tests, few) in
    less ∙ sym (light_narrow c.args.list.now (omega (arith, c.len.ensures.len, c.requires, room_of-least c.args.list.now)))
