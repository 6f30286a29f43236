-- The literals of bytes, read back.
use Rattle.std.proofs.Common.{◌≡◌, ℕ, zero, suc, ◌/◌, ◌%◌, ◌<◌, ◌≤◌, inl, inr, Bool, true, false, if◌then◌else◌, List, [], ◌∷◌, ◌++◌, codes, slice_index, refl, arith}
use Rattle.std.proofs.lemmas.Bool.Decides.{nat_tests}
use Rattle.std.specs.Char.{digit_value}
use Rattle.std.specs.List.{flat_map}
use Rattle.hex.specs.Hex.{encode_lower, encode_with, lower_digits}
use Rattle.text_model.specs.ScalarTexts.{escaped, is_control, is_marked}
use Rattle.field_writes.specs.Literals.{AreDigitsOf, SaysByte, SpellsBytes}

-- The value of a digit.
digit_is : (n : ℕ) → n < 16 → digit_value (slice_index lower_digits n) ≡ n
digit_is zero within = refl
digit_is (suc zero) within = refl
digit_is (suc (suc zero)) within = refl
digit_is (suc (suc (suc zero))) within = refl
digit_is (suc (suc (suc (suc zero)))) within = refl
digit_is (suc (suc (suc (suc (suc zero))))) within = refl
digit_is (suc (suc (suc (suc (suc (suc zero)))))) within = refl
digit_is (suc (suc (suc (suc (suc (suc (suc zero))))))) within = refl
digit_is (suc (suc (suc (suc (suc (suc (suc (suc zero)))))))) within = refl
digit_is (suc (suc (suc (suc (suc (suc (suc (suc (suc zero))))))))) within = refl
digit_is (suc (suc (suc (suc (suc (suc (suc (suc (suc (suc zero)))))))))) within = refl
digit_is (suc (suc (suc (suc (suc (suc (suc (suc (suc (suc (suc zero))))))))))) within = refl
digit_is (suc (suc (suc (suc (suc (suc (suc (suc (suc (suc (suc (suc zero)))))))))))) within = refl
digit_is (suc (suc (suc (suc (suc (suc (suc (suc (suc (suc (suc (suc (suc zero))))))))))))) within = refl
digit_is (suc (suc (suc (suc (suc (suc (suc (suc (suc (suc (suc (suc (suc (suc zero)))))))))))))) within = refl
digit_is (suc (suc (suc (suc (suc (suc (suc (suc (suc (suc (suc (suc (suc (suc (suc zero))))))))))))))) within = refl
digit_is (suc (suc (suc (suc (suc (suc (suc (suc (suc (suc (suc (suc (suc (suc (suc (suc n)))))))))))))))) within = absurd (omega arith)

control_below : (byte : ℕ) → is_control byte ≡ true → byte < 128
control_below byte is = grind (arith, nat_tests, is)

control_above : (byte : ℕ) → is_control byte ≡ false → 32 ≤ byte
control_above byte is = grind (arith, nat_tests, is)

-- The two digits of a byte below 128.
digits_are : (byte : ℕ) → byte < 128 → AreDigitsOf byte (slice_index lower_digits (byte / 16)) (slice_index lower_digits (byte % 16))
digits_are byte below =
    let high : byte / 16 < 8 = omega arith in
    let low : byte % 16 < 16 = omega arith in
    let first = digit_is (byte / 16) (omega arith) in
    let second = digit_is (byte % 16) low in
    (omega arith, omega arith, omega arith)

says_byte : (byte : ℕ) → SaysByte byte (escaped byte)
unfolding encode_with
says_byte byte = by (is_marked byte) refl (is_control byte) refl
  where
    by : (marked : Bool) → is_marked byte ≡ marked → (control : Bool) → is_control byte ≡ control
        → SaysByte byte (if marked then codes "\\" ++ byte ∷ [] else if control then codes "\\x" ++ encode_lower (byte ∷ []) else byte ∷ [])
    by true marked control is = inr (byte ∷ [], inl (refl, marked), refl)
    by false marked true is = inr (codes "x" ++ encode_lower (byte ∷ []), inr (slice_index lower_digits (byte / 16), slice_index lower_digits (byte % 16), digits_are byte (control_below byte is), refl), refl)
    by false marked false is = inl (refl, control_above byte is, marked)

-- The string between the quotation marks says the bytes.
pub spells : (bytes : List ℕ) → SpellsBytes bytes (flat_map escaped bytes)
spells [] = refl
spells (byte ∷ bytes) = (escaped byte, flat_map escaped bytes, says_byte byte, spells bytes, refl)
