-- Words of letters and digits: their bytes are ASCII, and none of them is another byte.
use Rattle.std.proofs.Common.{◌≡◌, ℕ, ◌<◌, ◌==◌, ◌&&◌, ◌||◌, Bool, true, false, List, [], ◌∷◌, refl, sym, ◌∙◌, ap, arith}
use Rattle.std.specs.Char.{is_ascii_digit}
use Rattle.std.specs.List.{list_all, list_any}
use Rattle.std.specs.Str.{IsUtf8, IsAscii}
use Rattle.std.proofs.lemmas.Bool.{and_parts, eqb-true}
use Rattle.std.proofs.lemmas.Bool.Decides.{nat_tests}
use Rattle.std.proofs.lemmas.Str.{IsUtf8-from_ascii}
use Rattle.std.proofs.lemmas.Str.Ascii.{IsAscii-nil, IsAscii-cons}
use Rattle.bag_model.specs.Words.{is_letter, is_word}
use Rattle.text_lines.specs.Words.{IsFree, HasNoSpace}
use Rattle.text_lines.proofs.Separated.{or_false}

-- The byte may be in a word.
abbrev pub is_of_word : ℕ → Bool
is_of_word byte = is_letter byte || is_ascii_digit byte

of_word_small : (byte : ℕ) → is_of_word byte ≡ true → byte < 128
of_word_small byte is = grind (arith, nat_tests, is)

letter_of_word : (byte : ℕ) → is_letter byte ≡ true → is_of_word byte ≡ true
letter_of_word byte is = ap (λ b. b || is_ascii_digit byte) is

-- All bytes of a word may be in one.
pub all_of_word : (text : List ℕ) → is_word text ≡ true → list_all is_of_word text ≡ true
all_of_word [] is = refl
all_of_word (byte ∷ bytes) is =
    let parts = and_parts (is_letter byte) (list_all is_of_word bytes) is in
    ap (λ b. b && list_all is_of_word bytes) (letter_of_word byte parts.0) ∙ parts.1

ascii_bytes : (text : List ℕ) → list_all is_of_word text ≡ true → IsAscii text
ascii_bytes [] is = IsAscii-nil
ascii_bytes (byte ∷ bytes) is =
    let parts = and_parts (is_of_word byte) (list_all is_of_word bytes) is in
    IsAscii-cons byte bytes (of_word_small byte parts.0) (ascii_bytes bytes parts.1)

pub word_ascii : (text : List ℕ) → is_word text ≡ true → IsAscii text
word_ascii text is = ascii_bytes text (all_of_word text is)

pub word_utf8 : (text : List ℕ) → is_word text ≡ true → IsUtf8 text
word_utf8 text is = IsUtf8-from_ascii text (word_ascii text is)

byte_free : (sep byte : ℕ) → is_of_word sep ≡ false → is_of_word byte ≡ true → (byte == sep) ≡ false
byte_free sep byte apart h = by (byte == sep) refl
  where
    by : (b : Bool) → (byte == sep) ≡ b → (byte == sep) ≡ false
    by false e = e
    by true e = absurd (let same : is_of_word byte ≡ is_of_word sep = ap is_of_word (eqb-true byte sep e) in let bad : true ≡ false = sym h ∙ same ∙ apart in cc bad)

bytes_free : (sep : ℕ) (bytes : List ℕ) → is_of_word sep ≡ false → list_all is_of_word bytes ≡ true → IsFree sep bytes
bytes_free sep [] apart h = refl
bytes_free sep (b ∷ bs) apart h =
    let parts = and_parts (is_of_word b) (list_all is_of_word bs) h in
    or_false (b == sep) (list_any (λ byte. byte == sep) bs) (byte_free sep b apart parts.0) (bytes_free sep bs apart parts.1)

-- A word has no byte that is neither a letter nor a digit.
pub free_word : (sep : ℕ) (text : List ℕ) → is_of_word sep ≡ false → is_word text ≡ true → IsFree sep text
free_word sep text apart is = bytes_free sep text apart (all_of_word text is)

pub word_no_space : (text : List ℕ) → is_word text ≡ true → HasNoSpace text
word_no_space text is = free_word 32 text refl is
