-- The texts of scalars.
use Rattle.std.specs.Prelude.{ℕ, ◌==◌, ◌||◌, nat_lt, Bool, true, false, if◌then◌else◌, List, [], ◌∷◌, ◌++◌, map, codes}
use Rattle.std.specs.Fmt.{decimal, signed_decimal}
use Rattle.std.specs.List.{flat_map}
use Rattle.hex.specs.Hex.{encode_lower}
use Rattle.bag_model.specs.Scalars.{Plain, Truth, Signed, Unsigned, Text, Octets, ScalarValue}
use Rattle.text_model.specs.Commas.{in_parentheses}

-- The byte is a quotation mark or a backslash.
abbrev pub is_marked : ℕ → Bool
is_marked byte = (byte == 34) || (byte == 92)

-- The byte is that of a control character.
abbrev pub is_control : ℕ → Bool
is_control byte = nat_lt byte 32 || (byte == 127)

-- A byte of a string: a quotation mark or a backslash follows a backslash, and a control character
-- is written as its two digits after `\x`.
abbrev pub escaped : ℕ → List ℕ
escaped byte =
    if is_marked byte then codes "\\" ++ byte ∷ []
    else if is_control byte then codes "\\x" ++ encode_lower (byte ∷ [])
    else byte ∷ []

-- A string between quotation marks.
abbrev pub quoted : List ℕ → List ℕ
quoted bytes = codes "\"" ++ flat_map escaped bytes ++ codes "\""

-- Bytes as hexadecimal digits after `0x`.
abbrev pub bytes_text : List ℕ → List ℕ
bytes_text bytes = codes "0x" ++ encode_lower bytes

-- A truth value by its word.
abbrev pub truth_text : Bool → List ℕ
truth_text true = codes "true"
truth_text false = codes "false"

-- The value of a word: a number in decimal, with a minus before one below zero.
abbrev pub plain_text : Plain → List ℕ
plain_text (Truth truth) = truth_text truth
plain_text (Signed number) = signed_decimal number
plain_text (Unsigned number) = decimal number
plain_text (Text bytes) = quoted bytes
plain_text (Octets bytes) = bytes_text bytes

-- The value of a word, or the values of a struct's fields between parentheses.
abbrev pub scalar_text : ScalarValue → List ℕ
scalar_text (ScalarValue.One v) = plain_text v
scalar_text (ScalarValue.Packed vs) = in_parentheses (map plain_text vs)
