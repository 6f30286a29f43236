-- Texts that are ASCII, and so UTF-8.
use Rattle.std.proofs.Common.{◌≡◌, ℕ, zero, suc, ◌<◌, ◌/◌, ◌%◌, ◌==◌, nat_lt, Bool, true, false, ℤ, pos, negsuc, List, [], ◌∷◌, if◌then◌else◌, codes, length, refl, arith, IsUtf8}
use Rattle.std.specs.Fmt.{decimal, signed_decimal, digits, digits_onto, digit_glyph}
use Rattle.std.specs.List.{list_all, slice_index}
use Rattle.std.specs.Str.{IsAscii}
use Rattle.std.proofs.lemmas.Bool.{and_parts}
use Rattle.std.proofs.lemmas.Bool.Decides.{nat_tests}
use Rattle.std.proofs.lemmas.Str.{IsUtf8-from_ascii}
use Rattle.std.proofs.lemmas.Str.Ascii.{IsAscii-nil, IsAscii-cons}
use Rattle.hex.specs.Hex.{encode_with, encode_lower, lower_digits}
use Rattle.text_lines.specs.HexLines.{hex_text}
use Rattle.text_lines.proofs.WordBytes.{word_utf8}
use Rattle.bag_model.specs.Words.{is_word, is_name}

-- The byte is that of an ASCII character.
abbrev pub is_low : ℕ → Bool
is_low byte = nat_lt byte 128

low_is : (byte : ℕ) → is_low byte ≡ true → byte < 128
low_is byte e = grind (arith, nat_tests)

ascii_all : (bytes : List ℕ) → list_all is_low bytes ≡ true → IsAscii bytes
ascii_all [] e = IsAscii-nil
ascii_all (byte ∷ bytes) e = let both = and_parts (is_low byte) (list_all is_low bytes) e in IsAscii-cons byte bytes (low_is byte both.0) (ascii_all bytes both.1)

-- A literal by computing.
pub literal_utf8 : (bytes : List ℕ) → list_all is_low bytes ≡ true → IsUtf8 bytes
literal_utf8 bytes e = IsUtf8-from_ascii bytes (ascii_all bytes e)

-- A byte of ASCII alone.
pub low_utf8 : (byte : ℕ) → byte < 128 → IsUtf8 (byte ∷ [])
low_utf8 byte low = IsUtf8-from_ascii (byte ∷ []) (IsAscii-cons byte [] low IsAscii-nil)

-- ---- numbers

glyph_low : (n : ℕ) → digit_glyph false (n % 10) < 128
glyph_low n = grind (arith, nat_tests)

either_ascii : (b : Bool) (x y : List ℕ) → IsAscii x → IsAscii y → IsAscii (if b then x else y)
either_ascii true x y p q = p
either_ascii false x y p q = q

onto_ascii : (k n : ℕ) (after : List ℕ) → IsAscii after → IsAscii (digits_onto k 10 false n after)
onto_ascii zero n after h = h
onto_ascii (suc k) n after h =
    let glyph = digit_glyph false (n % 10) in
    let more : IsAscii (glyph ∷ after) = IsAscii-cons glyph after (glyph_low n) h in
    either_ascii (n / 10 == 0) (glyph ∷ after) (digits_onto k 10 false (n / 10) (glyph ∷ after)) more (onto_ascii k (n / 10) (glyph ∷ after) more)

decimal_ascii : (n : ℕ) → IsAscii (decimal n)
unfolding digits
decimal_ascii n = onto_ascii 64 n [] IsAscii-nil

pub decimal_utf8 : (n : ℕ) → IsUtf8 (decimal n)
decimal_utf8 n = IsUtf8-from_ascii (decimal n) (decimal_ascii n)

pub signed_utf8 : (z : ℤ) → IsUtf8 (signed_decimal z)
signed_utf8 (pos n) = decimal_utf8 n
signed_utf8 (negsuc n) = IsUtf8-from_ascii (45 ∷ decimal (suc n)) (IsAscii-cons 45 (decimal (suc n)) (omega arith) (decimal_ascii (suc n)))

-- ---- hexadecimal digits

lower_ascii : IsAscii lower_digits
lower_ascii = let e : list_all is_low lower_digits ≡ true = cc in ascii_all lower_digits e

hex_ascii : (bytes : List ℕ) → IsAscii (encode_lower bytes)
unfolding encode_with
hex_ascii [] = IsAscii-nil
hex_ascii (byte ∷ bytes) =
    IsAscii-cons (slice_index lower_digits (byte / 16)) (slice_index lower_digits (byte % 16) ∷ encode_lower bytes) (lower_ascii (byte / 16))
    (IsAscii-cons (slice_index lower_digits (byte % 16)) (encode_lower bytes) (lower_ascii (byte % 16)) (hex_ascii bytes))

pub hex_utf8 : (bytes : List ℕ) → IsUtf8 (encode_lower bytes)
hex_utf8 bytes = IsUtf8-from_ascii (encode_lower bytes) (hex_ascii bytes)

pub either_utf8 : (b : Bool) (x y : List ℕ) → IsUtf8 x → IsUtf8 y → IsUtf8 (if b then x else y)
either_utf8 true x y p q = p
either_utf8 false x y p q = q

-- Digits, or a dash where there are no bytes.
pub hex_text_utf8 : (bytes : List ℕ) → IsUtf8 (hex_text bytes)
unfolding hex_text
hex_text_utf8 bytes = either_utf8 (length bytes == 0) (codes "-") (encode_lower bytes) (literal_utf8 (codes "-") refl) (hex_utf8 bytes)

-- ---- names

pub name_utf8 : (bytes : List ℕ) → is_name bytes ≡ true → IsUtf8 bytes
name_utf8 bytes e = word_utf8 bytes (and_parts (is_word bytes) _ e).0
