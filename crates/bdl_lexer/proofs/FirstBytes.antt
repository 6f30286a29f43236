-- The first byte of a piece tells its kind.
use Rattle.std.proofs.Common.{◌≡◌, ℕ, true, cond, eqb, arith}
use Rattle.std.proofs.lemmas.Bool.Decides.{nat_tests}
use Rattle.std.specs.Char.{is_ascii_digit}
use Rattle.bdl_lexer.specs.Bytes.{is_blank, is_letter, is_sign}

-- 0 blank, 1 letter, 2 digit, 3 quote, 4 sign, 5 slash, 6 any other
abbrev pub kind_of : ℕ → ℕ
kind_of b =
    cond (is_blank b) 0 (cond (is_letter b) 1 (cond (is_ascii_digit b) 2 (cond (eqb b 34) 3 (cond (is_sign b) 4 (cond (eqb b 47) 5 6)))))

pub kind_blank : (b : ℕ) → is_blank b ≡ true → kind_of b ≡ 0
kind_blank b e = grind (arith, nat_tests)

pub kind_letter : (b : ℕ) → is_letter b ≡ true → kind_of b ≡ 1
kind_letter b e = grind (arith, nat_tests)

pub kind_digit : (b : ℕ) → is_ascii_digit b ≡ true → kind_of b ≡ 2
kind_digit b e = grind (arith, nat_tests)

pub kind_sign : (b : ℕ) → is_sign b ≡ true → kind_of b ≡ 4
kind_sign b e = grind (arith, nat_tests)
