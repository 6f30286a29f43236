-- Numbers and depths, and the digits that say them.
use Rattle.std.proofs.Common.{◌≡◌, inl, inr, ℕ, ◌+◌, ◌-◌, ◌^◌, ◌<◌, ◌≤◌, ◌&&◌, zero, suc, true, List, [], ◌∷◌, length, get_or, refl, sym, ◌∙◌, ap, arith}
use Rattle.std.specs.Char.{is_ascii_digit}
use Rattle.std.specs.Fmt.{decimal}
use Rattle.std.specs.List.{list_all}
use Rattle.std.specs.Str.{all_ascii_digits}
use Rattle.std.specs.Str.Parse.{AllDigits, digits_value}
use Rattle.std.proofs.lemmas.Bool.{cases_lt}
use Rattle.std.proofs.lemmas.Str.Parse.{IsNumeralModel, numerals_by_value, tells_digits, tells_all_ascii_digits}
use Rattle.std.proofs.lemmas.Fmt.{decimal_is_IsNumeral, decimal-digits_value, decimal_injective, first_decimal, decimal_digit}
use Rattle.table_text.specs.Rows.{IsDepth}
use Rattle.text_lines.specs.Words.{HasNoSpace, IsNumberBelow}
use Rattle.text_lines.proofs.Numbers.{digits_free, number_no_space}

own : IsNumeralModel (AllDigits 10) (digits_value 10)
own = numerals_by_value (AllDigits 10) tells_digits

tested : IsNumeralModel (λ ds. all_ascii_digits ds ≡ true) (digits_value 10)
tested = numerals_by_value (λ ds. all_ascii_digits ds ≡ true) tells_all_ascii_digits

same_test : (digits : List ℕ) → list_all is_ascii_digit digits ≡ all_ascii_digits digits
same_test [] = refl
same_test (d ∷ ds) = ap (λ b. is_ascii_digit d && b) (same_test ds)

-- Digits are what the test finds.
pub to_digits : (digits : List ℕ) → list_all is_ascii_digit digits ≡ true → AllDigits 10 digits
to_digits digits is = tested.to digits (sym (same_test digits) ∙ is)

pub from_digits : (digits : List ℕ) → AllDigits 10 digits → list_all is_ascii_digit digits ≡ true
from_digits digits are = same_test digits ∙ tested.from digits are

-- Digits that begin well say a depth.
pub is_depth : (digits : List ℕ) → 0 < length digits → (get_or digits 0 0 ≡ 48 → length digits ≡ 1) → list_all is_ascii_digit digits ≡ true → IsDepth digits (digits_value 10 digits)
is_depth digits some bare is = record { digits_are = (some, to_digits digits is); no_zero = bare; value = refl }

-- The text of a number says it as a depth.
pub decimal_depth : (n : ℕ) → n < 2 ^ 64 → IsDepth (decimal n) n
decimal_depth n small =
    let numeral = decimal_is_IsNumeral n small in
    record { digits_are = numeral.0; no_zero = bare n small; value = numeral.1 }
  where
    bare : (m : ℕ) → m < 2 ^ 64 → get_or (decimal m) 0 0 ≡ 48 → length (decimal m) ≡ 1
    bare zero few first = ap length (decimal_digit 0 (omega arith))
    bare (suc m) few first = absurd (omega (arith, first, first_decimal (suc m) (omega arith) few))

-- A depth of 64 bits is said by its text.
pub depth_decimal : (digits : List ℕ) (n : ℕ) → IsDepth digits n → n < 2 ^ 64 → digits ≡ decimal n
depth_decimal digits n deep small =
    sym (decimal-digits_value own digits deep.digits_are.1 deep.digits_are.0 deep.no_zero (omega (arith, deep.value, small))) ∙ ap decimal deep.value

-- A single digit is the text of its number.
pub one_digit : (text : List ℕ) → 1 ≤ length text → length text < 2 → 48 ≤ get_or text 0 0 → get_or text 0 0 ≤ 57 → IsNumberBelow 10 text (get_or text 0 0 - 48)
one_digit [] some few low high = absurd (omega (arith, some))
one_digit (digit ∷ []) some few low high =
    let small : digit - 48 < 10 = omega (arith, high) in
    let back : 48 + (digit - 48) ≡ digit = omega (arith, low) in
    (small, sym (decimal_digit (digit - 48) small ∙ ap (λ (n : ℕ). n ∷ []) back))
one_digit (digit ∷ other ∷ more) some few low high = absurd (omega (arith, few))

-- Digits that say no number of 64 bits say a greater one.
pub great_depth : (digits : List ℕ) (n : ℕ) → IsDepth digits n → ((m : ℕ) → (digits ≡ decimal m) × (m < 2 ^ 64) → ⊥) → 2 ^ 64 ≤ n
great_depth digits n deep none = elim (cases_lt n (2 ^ 64)) [ inl less ↦ absurd (none n (depth_decimal digits n deep less, less)) | inr more ↦ more ]

pub depth_free : (digits : List ℕ) (n : ℕ) → IsDepth digits n → HasNoSpace digits
depth_free digits n deep = digits_free 32 digits (omega arith) deep.digits_are.1

pub number_free : (n : ℕ) → n < 2 ^ 16 → HasNoSpace (decimal n)
number_free n small = number_no_space n (omega (arith, small))

pub same_number : (m n : ℕ) → m < 2 ^ 16 → n < 2 ^ 16 → decimal m ≡ decimal n → m ≡ n
same_number m n p q e = decimal_injective m n (omega (arith, p)) (omega (arith, q)) e
