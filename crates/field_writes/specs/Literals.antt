-- Literals of scalars.
use Rattle.std.specs.Prelude.{◌≡◌, ◌⊎◌, ℕ, ◌+◌, ◌-◌, ◌*◌, ◌<◌, ◌≤◌, Bool, false, IsTrue, List, [], ◌∷◌, ◌++◌, length, codes, Ok}
use Rattle.std.specs.Char.{digit_value}
use Rattle.std.specs.Fmt.{decimal, signed_decimal}
use Rattle.hex.specs.Hex.{decode_of}
use Rattle.context_model.specs.declared.Form.{Form as WireForm}
use Rattle.context_model.specs.Framing.{most}
use Rattle.bag_model.specs.declared.words.ScalarWord.TheVariants.{Str, Bytes}
use Rattle.bag_model.specs.Scalars.{Word, ScalarKind, Plain, ScalarValue, Truth, Signed, Unsigned, Text, Octets, IsScalarOf, spelling, spelling_form_of, SignedVarint, SignedFixedBytes, UnsignedVarint, FixedBytes}
use Rattle.text_model.specs.Commas.{in_parentheses}
use Rattle.text_model.specs.ScalarTexts.{is_marked, truth_text}

-- The two digits, of either case, are those of this byte, which is below 128.
abbrev pub AreDigitsOf : ℕ → ℕ → ℕ → Type 0
AreDigitsOf byte high low =
    (digit_value high < 8) × (digit_value low < 16)
    × (byte ≡ 16 * digit_value high + digit_value low)

-- What follows a backslash says this byte: it is a quotation mark or a backslash itself, or `x` and
-- its digits.
abbrev pub SaysEscaped : ℕ → List ℕ → Type 0
SaysEscaped byte text =
    ((text ≡ byte ∷ []) × IsTrue (is_marked byte))
    ⊎ ((high low : ℕ) × AreDigitsOf byte high low × (text ≡ codes "x" ++ high ∷ low ∷ []))

-- The text says this byte of a string: it is the byte itself, or says it after a backslash. A
-- quotation mark, a backslash and a byte below 32 don't mean themselves.
abbrev pub SaysByte : ℕ → List ℕ → Type 0
SaysByte byte text =
    ((text ≡ byte ∷ []) × (32 ≤ byte) × (is_marked byte ≡ false))
    ⊎ ((escaped : List ℕ) × SaysEscaped byte escaped × (text ≡ codes "\\" ++ escaped))

-- The text says these bytes of a string, one after another.
abbrev pub SpellsBytes : List ℕ → List ℕ → Type 0
SpellsBytes [] text = text ≡ []
SpellsBytes (byte ∷ bytes) text =
    (first rest : List ℕ) × SaysByte byte first × SpellsBytes bytes rest × (text ≡ first ++ rest)

-- The text says this value of a word, whatever the word: the word of a truth value, a number in
-- decimal with a minus before one below zero, a string between quotation marks, or bytes as digits
-- of either case after `0x`.
abbrev pub IsPlainText : Plain → List ℕ → Type 0
IsPlainText (Truth truth) text = text ≡ truth_text truth
IsPlainText (Signed number) text = text ≡ signed_decimal number
IsPlainText (Unsigned number) text = text ≡ decimal number
IsPlainText (Text bytes) text =
    (inside : List ℕ) × SpellsBytes bytes inside × (text ≡ codes "\"" ++ inside ++ codes "\"")
IsPlainText (Octets bytes) text =
    (digits : List ℕ) × (text ≡ codes "0x" ++ digits) × (decode_of digits ≡ Ok bytes)

-- Each text says its value.
abbrev pub ArePlainTexts : List Plain → List (List ℕ) → Type 0
ArePlainTexts [] [] = Unit {0}
ArePlainTexts [] (text ∷ texts) = ⊥
ArePlainTexts (v ∷ vs) [] = ⊥
ArePlainTexts (v ∷ vs) (text ∷ texts) = IsPlainText v text × ArePlainTexts vs texts

-- The word is of numbers with a sign.
abbrev pub HasSign : Word → Type 0
HasSign word =
    (wide : Bool) × ((spelling_form_of word ≡ SignedVarint wide)
    ⊎ (spelling_form_of word ≡ SignedFixedBytes wide))

-- The word is of numbers without a sign.
abbrev pub HasNoSign : Word → Type 0
HasNoSign word =
    (wide : Bool) × ((spelling_form_of word ≡ UnsignedVarint wide)
    ⊎ (spelling_form_of word ≡ FixedBytes wide))

-- The text says the value of a word, or the values of a struct's fields between parentheses.
abbrev pub IsScalarText : ScalarValue → List ℕ → Type 0
IsScalarText (ScalarValue.One v) text = IsPlainText v text
IsScalarText (ScalarValue.Packed vs) text =
    (texts : List (List ℕ)) × ArePlainTexts vs texts × (text ≡ in_parentheses texts)

-- The most bytes of a payload or a key that is written where this form is asked for: an atom has
-- one more.
abbrev pub most_payload : WireForm → ℕ
most_payload form = most form - 1

-- The text is a literal of the kind for this value, which an atom has room for where this form is
-- asked for.
abbrev pub IsLiteral : WireForm → ScalarKind → ScalarValue → List ℕ → Type 0
IsLiteral form kind v text =
    IsScalarOf kind v × (length (spelling kind v) ≤ most_payload form) × IsScalarText v text

-- The text names this writer of a counter: it is a string's or a byte string's literal for the
-- writer's bytes.
abbrev pub IsWriter : WireForm → List ℕ → List ℕ → Type 0
IsWriter form bytes text =
    IsLiteral form (ScalarKind.One Str) (ScalarValue.One (Text bytes)) text
    ⊎ IsLiteral form (ScalarKind.One Bytes) (ScalarValue.One (Octets bytes)) text
