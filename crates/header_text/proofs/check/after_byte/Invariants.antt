use Rattle.std.proofs.Common.{◌≡◌, ◌-◌}
use Rattle.std.specs.Prelude.{bit_xor}
use Rattle.header_text.specs.Check.{after_bits}
use Rattle.header_text.proofs.check.after_byte.Given as goal

-- What is left to do turns this check into that after all eight bits.
abbrev pub invariant-loop : goal.invariant-loop
invariant-loop l = after_bits (8 - l.counter) l.after ≡ after_bits 8 (bit_xor l.fn.crc l.fn.byte)
