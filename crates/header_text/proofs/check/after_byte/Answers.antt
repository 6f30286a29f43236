use Rattle.std.proofs.Common.{◌+◌, ◌-◌, ap, sym, ◌∙◌, arith}
use Rattle.std.specs.Prelude.{bit_xor}
use Rattle.header_text.specs.Check.{after_bits}
use Rattle.header_text.proofs.Checks.{next_bit, last_bit}
use Rattle.header_text.proofs.check.after_byte.Goals as goal

pub loop-init : goal.loop-init
loop-init c = ap (λ b. after_bits 8 (bit_xor c.args.crc b)) c.from.ensures

pub loop-preserved : goal.loop-preserved
loop-preserved c =
    ap (after_bits (8 - (c.loop.counter + 1))) c.after_bit-after.ensures ∙ sym (next_bit c.loop.counter c.loop.after (omega arith)) ∙ c.loop.invariant

pub returns : goal.returns
returns c = last_bit c.loop.counter c.loop.after c.args.crc c.args.byte (omega arith) c.loop.invariant
