use Rattle.std.proofs.Common.{◌≡◌, ℕ, ◌+◌, ◌-◌, ◌*◌, ◌<◌, ◌^◌, Bool, true, false, cond, [], ◌∷◌, get_or, refl, ap, sym, arith}
use Rattle.context_model.specs.Varints.{complement}
use Rattle.lex_varint.specs.Readings.{turned}
use Rattle.lex_varint.proofs.Numbers.{room_more, high_more, low_more}
use Rattle.lex_varint.proofs.number_behind.Goals as goal

none : (negative : Bool) → turned negative [] ≡ []
unfolding complement
none true = refl
none false = refl

pub loop-byte-init : goal.loop-byte-init
loop-byte-init c = record { low = sym (none c.args.negative); high = omega arith }

pub overflow_mul-number : goal.overflow_mul-number
overflow_mul-number c =
    let room : c.loop-byte.number * 256 + 255 < 2 ^ 64 = room_more c.args.high c.loop-byte.number c.loop-byte.byte-index _ c.loop-byte.invariant.high c.loop-byte-test.true c.requires in
    omega arith

small : (negative : Bool) (b : ℕ) → b < 256 → cond negative (255 - b) b < 256
small true b h = omega arith
small false b h = h

pub overflow_add-number : goal.overflow_add-number
overflow_add-number c =
    let room : c.loop-byte.number * 256 + 255 < 2 ^ 64 = room_more c.args.high c.loop-byte.number c.loop-byte.byte-index _ c.loop-byte.invariant.high c.loop-byte-test.true c.requires in
    omega (arith, c.turned_byte-digit.ensures, small c.args.negative (get_or c.args.bytes.now c.loop-byte.byte-index 0) (c.type_inv.bytes c.loop-byte.byte-index).fits)

one_turned : (negative : Bool) (b d : ℕ) → d ≡ cond negative (255 - b) b → turned negative (b ∷ []) ≡ d ∷ []
unfolding complement
one_turned true b d h = ap (λ v. v ∷ []) (sym h)
one_turned false b d h = ap (λ v. v ∷ []) (sym h)

pub loop-byte-preserved : goal.loop-byte-preserved
loop-byte-preserved c =
    let byte : c.turned_byte-digit.result < 256 = omega (arith, c.turned_byte-digit.ensures, small c.args.negative (get_or c.args.bytes.now c.loop-byte.byte-index 0) (c.type_inv.bytes c.loop-byte.byte-index).fits) in
    record {
      low = low_more c.args.negative c.args.bytes.now c.loop-byte.number c.turned_byte-digit.result c.loop-byte.byte-index c.loop-byte-test.true byte
          (one_turned c.args.negative (get_or c.args.bytes.now c.loop-byte.byte-index 0) c.turned_byte-digit.result c.turned_byte-digit.ensures) c.loop-byte.invariant.low;
      high = high_more c.args.high c.loop-byte.number c.turned_byte-digit.result c.loop-byte.byte-index byte c.loop-byte.invariant.high;
    }
