-- Bytes as hexadecimal digits.
use Rattle.std.specs.Prelude.{◌≡◌, ◌⊎◌, ℕ, ◌<◌, ◌==◌, ◌&&◌, List, [], ◌∷◌, ◌++◌, length, slice_index, if◌then◌else◌, codes, Option, Some, None}
use Rattle.std.specs.Result.{result_ok}
use Rattle.hex.specs.Hex.{encode_lower, decode_of}
use Rattle.text_lines.specs.declared.TheConstants.{DIGITS_MAX}
use Rattle.text_lines.specs.declared.hex_lines.HexCode.{HexCode}
use Rattle.text_lines.specs.declared.hex_lines.HexCode.TheVariants.{HexTooLong, BadHex}
use Rattle.text_lines.specs.declared.hex_lines.HexFault.{HexFault}
use Rattle.text_lines.specs.declared.hex_lines.HexFault.TheVariants.{Bad, Memory}
use Rattle.text_lines.specs.Readings.{Reading, IsFirstOf, NoneOf}

-- The digits of these bytes: two a byte in lower case, or a dash for none.
unfoldable pub hex_text : List ℕ → List ℕ
hex_text bytes = if length bytes == 0 then codes "-" else encode_lower bytes

-- The line of these bytes: their digits and a line feed.
abbrev pub hex_line : List ℕ → List ℕ
hex_line bytes = hex_text bytes ++ 10 ∷ []

-- The name of a code, as it is printed.
abbrev pub hex_name : HexCode → List ℕ
hex_name HexTooLong = codes "HexTooLong"
hex_name BadHex = codes "BadHex"

-- The bytes that a text of digits of either case says, or none for a dash; `None` where it is
-- neither.
unfoldable pub hex_bytes : List ℕ → Option (List ℕ)
hex_bytes text =
    if length text == 0 then None
    else if (length text == 1) && (slice_index text 0 == 45) then Some []
    else result_ok (decode_of text)

-- The text isn't one of hexadecimal digits, for this reason.
abbrev pub BreaksHex : List ℕ → HexCode → Type 0
BreaksHex text HexTooLong = DIGITS_MAX < length text
BreaksHex text BadHex = hex_bytes text ≡ None

-- The reasons in the order in which they count.
abbrev pub hex_codes : List HexCode
hex_codes = HexTooLong ∷ BadHex ∷ []

-- The text says these bytes.
abbrev pub IsHexOf : List ℕ → List ℕ → Type 0
IsHexOf bytes text = NoneOf (BreaksHex text) hex_codes × (hex_bytes text ≡ Some bytes)

-- The first reason why a text isn't one of hexadecimal digits.
abbrev pub IsHexFault : List ℕ → HexCode → Type 0
IsHexFault text code = IsFirstOf (BreaksHex text) hex_codes code

-- The answer names the first reason. Where memory ran out, nothing is claimed.
abbrev pub IsHexRefusal : List ℕ → HexFault → Type 0
IsHexRefusal text (Bad code) = IsHexFault text code
IsHexRefusal text Memory = Unit {0}

-- A line of hexadecimal digits says what its bytes say. It is bad where it isn't one of digits, and
-- else by what is wrong with its bytes.
abbrev pub hex_lines : {A F : Type 0} → (HexCode → F) → Reading A F → Reading A F
hex_lines fault_of of_bytes = record {
  says = λ earlier text said.
      (bytes : List ℕ) × IsHexOf bytes text × of_bytes.says earlier bytes said;
  faults = λ earlier text fault.
      ((code : HexCode) × IsHexFault text code × (fault ≡ fault_of code))
      ⊎ ((bytes : List ℕ) × IsHexOf bytes text × of_bytes.faults earlier bytes fault);
}
