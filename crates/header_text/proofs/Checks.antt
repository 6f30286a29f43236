-- Steps of a check.
use Rattle.std.proofs.Common.{◌≡◌, ℕ, suc, ◌+◌, ◌-◌, ◌<◌, ◌≤◌, List, [], ◌∷◌, length, drop, get_or, sym, ◌∙◌, ap, arith}
use Rattle.std.specs.Prelude.{bit_xor}
use Rattle.std.proofs.lemmas.Grind.{common_steps}
use Rattle.header_text.specs.Check.{after_bit, after_bits, after_byte, after_bytes, crc32}

-- One bit of those that are left.
pub next_bit : (n crc : ℕ) → n < 8 → after_bits (8 - n) crc ≡ after_bits (8 - (n + 1)) (after_bit crc)
unfolding after_bits
next_bit n crc less =
    let more : 8 - n ≡ suc (8 - (n + 1)) = omega arith in
    ap (λ k. after_bits k crc) more

-- One byte of those that are left.
pub next_byte : (crc i : ℕ) (bytes : List ℕ) → i < length bytes
    → after_bytes crc (drop i bytes) ≡ after_bytes (after_byte crc (get_or bytes i 0)) (drop (i + 1) bytes)
unfolding after_bytes
next_byte crc i bytes less =
    let more : drop i bytes ≡ get_or bytes i 0 ∷ drop (i + 1) bytes = grind (arith, common_steps) in
    ap (after_bytes crc) more

-- After the last byte all bits are turned.
pub all_bytes : (crc i : ℕ) (bytes : List ℕ) → length bytes ≤ i → after_bytes crc (drop i bytes) ≡ after_bytes 4294967295 bytes → bit_xor crc 4294967295 ≡ crc32 bytes
unfolding after_bytes crc32
all_bytes crc i bytes past same =
    let none : drop i bytes ≡ [] = grind (arith, common_steps) in
    ap (λ k. bit_xor k 4294967295) (sym (ap (after_bytes crc) none) ∙ same)

-- Before the first bit none is past, and after the last none is left.
pub last_bit : (n after crc byte : ℕ) → 8 ≤ n → after_bits (8 - n) after ≡ after_bits 8 (bit_xor crc byte) → after ≡ after_byte crc byte
unfolding after_bits after_byte
last_bit n after crc byte past same =
    let none : 8 - n ≡ 0 = omega arith in
    sym (ap (λ k. after_bits k after) none) ∙ same
