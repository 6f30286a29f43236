-- The words of the definition language: those that are reserved, and the names.
use Rattle.std.specs.Prelude.{◌≡◌, ℕ, Bool, false, ◌&&◌, ◌||◌, not, ◌==◌, if◌then◌else◌, Option, None, Some, List, [], ◌∷◌, map, codes}
use Rattle.std.specs.Char.{is_ascii_alphabetic, is_ascii_digit}
use Rattle.std.specs.List.{list_any, list_all}
use Rattle.std.specs.Str.{bytes_eq}
use Rattle.bag_model.specs.declared.words.ScalarWord.TheVariants.{Bool as Boolean, Int32, Int64, Sint32, Sint64, Uint32, Uint64, Fixed32, Fixed64, Sfixed32, Sfixed64, Str, Bytes}
use Rattle.bag_model.specs.Scalars.{Word}

-- A reserved word: the word of a scalar, or one that begins or is another part of the language.
pub data Reserved : Type 0 where
  Import Bag Struct Set Greatest Map Counter Taint Float Double : Reserved
  ScalarWord : Word → Reserved

-- The text of a scalar word.
abbrev pub word_text : Word → List ℕ
word_text Boolean = codes "bool"
word_text Int32 = codes "int32"
word_text Int64 = codes "int64"
word_text Sint32 = codes "sint32"
word_text Sint64 = codes "sint64"
word_text Uint32 = codes "uint32"
word_text Uint64 = codes "uint64"
word_text Fixed32 = codes "fixed32"
word_text Fixed64 = codes "fixed64"
word_text Sfixed32 = codes "sfixed32"
word_text Sfixed64 = codes "sfixed64"
word_text Str = codes "string"
word_text Bytes = codes "bytes"

-- The text of a reserved word.
abbrev pub reserved_text : Reserved → List ℕ
reserved_text Import = codes "import"
reserved_text Bag = codes "bag"
reserved_text Struct = codes "struct"
reserved_text Set = codes "set"
reserved_text Greatest = codes "greatest"
reserved_text Map = codes "map"
reserved_text Counter = codes "counter"
reserved_text Taint = codes "taint"
reserved_text Float = codes "float"
reserved_text Double = codes "double"
reserved_text (ScalarWord word) = word_text word

-- The scalar words, each once.
abbrev pub scalar_words : List Word
scalar_words =
    Boolean ∷ Int32 ∷ Int64 ∷ Sint32 ∷ Sint64 ∷ Uint32 ∷ Uint64 ∷ Fixed32 ∷ Fixed64 ∷ Sfixed32
    ∷ Sfixed64 ∷ Str ∷ Bytes ∷ []

-- The first of these words that has the text.
abbrev pub word_among : List ℕ → List Word → Option Word
word_among text [] = None
word_among text (word ∷ words) =
    if bytes_eq text (word_text word) then Some word else word_among text words

-- The scalar word with this text.
unfoldable pub word_named : List ℕ → Option Word
word_named text = word_among text scalar_words

-- The reserved words, each once.
abbrev pub all_reserved : List Reserved
all_reserved =
    Import ∷ Bag ∷ Struct ∷ Set ∷ Greatest ∷ Map ∷ Counter ∷ Taint ∷ Float ∷ Double
    ∷ map ScalarWord scalar_words

-- The texts of the reserved words, each once.
abbrev pub reserved_words : List (List ℕ)
reserved_words = map reserved_text all_reserved

-- The first of these reserved words that has the text.
abbrev pub reserved_among : List ℕ → List Reserved → Option Reserved
reserved_among text [] = None
reserved_among text (word ∷ words) =
    if bytes_eq text (reserved_text word) then Some word else reserved_among text words

-- The reserved word with this text.
unfoldable pub reserved_of : List ℕ → Option Reserved
reserved_of text = reserved_among text all_reserved

-- A to Z, a to z or `_`.
abbrev pub is_letter : ℕ → Bool
is_letter byte = is_ascii_alphabetic byte || byte == 95

-- A letter, and then letters and digits.
abbrev pub is_word : List ℕ → Bool
is_word [] = false
is_word (byte ∷ bytes) =
    is_letter byte && list_all (λ other. is_letter other || is_ascii_digit other) bytes

-- A name is a word that isn't reserved.
abbrev pub is_name : List ℕ → Bool
is_name bytes = is_word bytes && not (list_any (bytes_eq bytes) reserved_words)

-- No byte is a dot.
abbrev pub HasNoDot : List ℕ → Type 0
HasNoDot bytes = list_any (λ byte. byte == 46) bytes ≡ false
