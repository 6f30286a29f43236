-- Texts of numbers, and what is read of them.
use Rattle.std.proofs.Common.{◌≡◌, ◌⊎◌, inl, inr, ℕ, zero, suc, ◌^◌, ◌<◌, List, length, get_or, Result, Ok, Err, sym, ap, ◌∙◌, subst, arith}
use Rattle.std.specs.Fmt.{decimal}
use Rattle.std.specs.Result.{result_ok}
use Rattle.std.specs.Str.{IsUtf8}
use Rattle.std.specs.Str.Parse.{AllDigits, digits_value, ParsesUnsigned}
use Rattle.std.proofs.lemmas.Bool.{cases_lt}
use Rattle.std.proofs.lemmas.Str.{IsUtf8-from_ascii}
use Rattle.std.proofs.lemmas.Str.Parse.{IsNumeralModel, numerals_by_value, tells_digits, parse_plain, digit_at}
use Rattle.std.proofs.lemmas.Fmt.{decimal_is_IsNumeral, decimal-digits_value, parse-decimal, first_decimal, decimal_digit, IsAscii-decimal}
use Rattle.text_lines.specs.Answers.{IsSomeOf}

-- The text is the number's, which has 64 bits.
abbrev pub Says : List ℕ → ℕ → Type 0
Says text number = (text ≡ decimal number) × (number < 2 ^ 64)

-- The text begins with a plus, or with a zero that isn't all of it.
abbrev pub BeginsBadly : List ℕ → Type 0
BeginsBadly text = (get_or text 0 0 ≡ 43) ⊎ ((get_or text 0 0 ≡ 48) × (1 < length text))

-- A number's text begins with a digit, which is a zero only where it is all of the text.
decimal_begins_well : (number : ℕ) → number < 2 ^ 64 → BeginsBadly (decimal number) → ⊥
decimal_begins_well number small (inl plus) =
    let numeral = (decimal_is_IsNumeral number small).0 in
    omega (arith, plus, digit_at (decimal number) 0 numeral.1 numeral.0)
decimal_begins_well zero small (inr (first, more)) = omega (arith, more, ap length (decimal_digit 0 (omega arith)))
decimal_begins_well (suc n) small (inr (first, more)) =
    omega (arith, first, first_decimal (suc n) (omega arith) small)

pub says_none : (text : List ℕ) → BeginsBadly text → (number : ℕ) → Says text number → ⊥
says_none text bad number says = decimal_begins_well number says.1 (subst BeginsBadly says.0 bad)

pub utf8 : (text : List ℕ) (number : ℕ) → Says text number → IsUtf8 text
utf8 text number says = subst IsUtf8 (sym says.0) (IsUtf8-from_ascii (decimal number) (IsAscii-decimal number says.1))

own : IsNumeralModel (AllDigits 10) (digits_value 10)
own = numerals_by_value (AllDigits 10) tells_digits

-- What `parse` answers of a text that doesn't begin badly is the number that it says.
pub parsed : {E : Type 0} (text : List ℕ) (r : Result ℕ E) → ParsesUnsigned 64 10 text r → (BeginsBadly text → ⊥) → IsSomeOf (Says text) (result_ok r)
parsed {E} text (Ok n) p good =
    let read = parse_plain own {E = E} 64 text (Ok n) p (λ plus. good (inl plus)) in
    let bare : get_or text 0 0 ≡ 48 → length text ≡ 1 = (λ zero_first. elim (cases_lt 1 (length text)) [
      | inl more ↦ absurd (good (inr (zero_first, more)))
      | inr few ↦ omega (arith, few, read.0.1)
    ]) in
    (sym (decimal-digits_value own text read.0.0 read.0.1 bare read.0.2) ∙ ap decimal (sym read.1), omega (arith, read.1, read.0.2))
parsed {E} text (Err e) p good = λ number says.
    let read : Err e ≡ Ok number = parse-decimal {E = E} 64 number text (Err e) says.1 says.1 says.0 p in cc read
