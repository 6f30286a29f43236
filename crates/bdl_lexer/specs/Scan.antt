-- The pieces of a source: blanks, comments and tokens.
use Rattle.std.specs.Prelude.{◌≡◌, ℕ, ◌+◌, ◌*◌, ◌-◌, ◌<◌, ◌≤◌, true, Option, None, Some, List, [], ◌∷◌, ◌++◌, length, slice_index, ◌⊎◌}
use Rattle.std.specs.Char.{is_ascii_digit}
use Rattle.std.specs.List.{AllPass, fold}
use Rattle.bdl_lexer.specs.declared.TheConstants.{NUMBER_MAX}
use Rattle.bdl_lexer.specs.declared.TokenClass.{TokenClass}
use Rattle.bdl_lexer.specs.declared.TokenClass.TheVariants.{Word, Number, Text, Sign}
use Rattle.bdl_lexer.specs.Bytes.{line_feed, quote, star, slash, is_blank, is_letter, is_word_byte, is_text_byte, is_line_byte, is_sign}

-- The number that these decimal digits spell.
abbrev pub decimal_value : List ℕ → ℕ
decimal_value digits = fold (λ value digit. 10 * value + (digit - 48)) 0 digits

-- A Word is a letter, and then letters and digits.
pub record IsWordToken (text : List ℕ) : Type 0 where
  pub first : ℕ
  pub more : List ℕ
  pub is : text ≡ first ∷ more
  pub letter : is_letter first ≡ true
  pub each : AllPass is_word_byte more

-- A Number is one or more decimal digits, with the value that they spell.
pub record IsNumberToken (value : ℕ) (text : List ℕ) : Type 0 where
  pub nonempty : 0 < length text
  pub each : AllPass is_ascii_digit text
  pub value_is : value ≡ decimal_value text

-- A Text is a quote, bytes that a Text may hold, and a quote.
pub record IsText (text : List ℕ) : Type 0 where
  pub inner : List ℕ
  pub is : text ≡ quote ∷ (inner ++ quote ∷ [])
  pub each : AllPass is_text_byte inner

-- A Sign is one of the signs.
pub record IsSign (byte : ℕ) (text : List ℕ) : Type 0 where
  pub is : text ≡ byte ∷ []
  pub sign : is_sign byte ≡ true

-- The text has the form of such a token, whatever its number.
abbrev pub HasTokenForm : TokenClass → List ℕ → Type 0
HasTokenForm Word text = IsWordToken text
HasTokenForm (Number value) text = IsNumberToken value text
HasTokenForm Text text = IsText text
HasTokenForm (Sign byte) text = IsSign byte text

-- The text has the form of such a token, and no longer one begins where it begins.
pub record IsLongest (class : TokenClass) (text rest : List ℕ) : Type 0 where
  pub form : HasTokenForm class text
  pub longest : (other : TokenClass) (longer after : List ℕ) → text ++ rest ≡ longer ++ after
      → HasTokenForm other longer → length longer ≤ length text

-- A number is at most `NUMBER_MAX`.
abbrev pub IsNumberInRange : TokenClass → Type 0
IsNumberInRange (Number value) = value ≤ NUMBER_MAX
IsNumberInRange _ = Unit {0}

-- A token is the longest one at its place, its number in range.
pub record IsToken (class : TokenClass) (text rest : List ℕ) : Type 0 where
  pub longest : IsLongest class text rest
  pub in_range : IsNumberInRange class

-- One blank.
pub record IsBlank (text : List ℕ) : Type 0 where
  pub byte : ℕ
  pub is : text ≡ byte ∷ []
  pub blank : is_blank byte ≡ true

-- A line ends here: the source does, or a line feed follows.
abbrev pub EndsLine : List ℕ → Type 0
EndsLine [] = Unit {0}
EndsLine (byte ∷ _) = byte ≡ line_feed

-- From "//" to the end of the line.
pub record IsLineComment (text rest : List ℕ) : Type 0 where
  pub inner : List ℕ
  pub is : text ≡ slash ∷ slash ∷ inner
  pub each : AllPass is_line_byte inner
  pub ends : EndsLine rest

-- Nowhere a star with a slash after it.
abbrev pub HasNoClose : List ℕ → Type 0
HasNoClose text =
    (k : ℕ) → k + 1 < length text → slice_index text k ≡ star → slice_index text (k + 1) ≡ slash → ⊥

-- From "/*" to the first "*/" after it.
pub record IsBlockComment (text : List ℕ) : Type 0 where
  pub inner : List ℕ
  pub is : text ≡ slash ∷ star ∷ (inner ++ star ∷ slash ∷ [])
  pub first : HasNoClose (inner ++ star ∷ [])

-- A piece of a source, with what follows it: a token of that class, or else a blank or a comment.
abbrev pub IsPiece : Option TokenClass → List ℕ → List ℕ → Type 0
IsPiece None text rest = IsBlank text ⊎ (IsLineComment text rest ⊎ IsBlockComment text)
IsPiece (Some class) text rest = IsToken class text rest
