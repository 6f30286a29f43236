-- The first lexical fault of a source.
use Rattle.std.specs.Prelude.{◌≡◌, ℕ, ◌<◌, Bool, false, ◌||◌, ◌&&◌, ◌==◌, List, [], ◌∷◌, ◌++◌, take}
use Rattle.std.specs.Char.{is_ascii_digit}
use Rattle.std.specs.List.{AllPass}
use Rattle.std.specs.Str.{IsUtf8, IsValidUpTo}
use Rattle.bdl_lexer.specs.declared.LexCode.{LexCode}
use Rattle.bdl_lexer.specs.declared.LexCode.TheVariants.{NotUtf8, BadByte, OpenComment, OpenString, NumberRange}
use Rattle.bdl_lexer.specs.declared.LexFault.{LexFault}
use Rattle.bdl_lexer.specs.declared.LexFault.TheVariants.{At, Memory}
use Rattle.bdl_lexer.specs.declared.TheConstants.{NUMBER_MAX}
use Rattle.bdl_lexer.specs.declared.TokenClass.TheVariants.{Number}
use Rattle.bdl_lexer.specs.Bytes.{quote, star, slash, is_blank, is_letter, is_text_byte, is_sign}
use Rattle.bdl_lexer.specs.Scan.{IsLongest, EndsLine, HasNoClose}
use Rattle.bdl_lexer.specs.Places.{first_place, place_behind}
use Rattle.bdl_lexer.specs.Tokens.{SourcePiece, BeginsWithPieces, text_of_pieces}

-- After a slash, a slash or a star begins a comment.
abbrev pub begins_comment : List ℕ → Bool
begins_comment [] = false
begins_comment (byte ∷ _) = byte == slash || byte == star

-- A blank, a token or a comment begins here.
abbrev pub begins_piece : ℕ → List ℕ → Bool
begins_piece byte more =
    is_blank byte || is_letter byte || is_ascii_digit byte || byte == quote || is_sign byte ||
    (byte == slash && begins_comment more)

-- The rest has a first byte, and nothing begins with it.
pub record IsBadByte (rest : List ℕ) : Type 0 where
  pub byte : ℕ
  pub more : List ℕ
  pub is : rest ≡ byte ∷ more
  pub none : begins_piece byte more ≡ false

-- "/*", and no "*/" after it.
pub record IsOpenComment (rest : List ℕ) : Type 0 where
  pub inner : List ℕ
  pub is : rest ≡ slash ∷ star ∷ inner
  pub open_ : HasNoClose inner

-- A quote, and no other on its line.
pub record IsOpenString (rest : List ℕ) : Type 0 where
  pub inner : List ℕ
  pub after : List ℕ
  pub is : rest ≡ quote ∷ (inner ++ after)
  pub each : AllPass is_text_byte inner
  pub ends : EndsLine after

-- The longest token here is a number above `NUMBER_MAX`.
pub record IsLargeNumber (rest : List ℕ) : Type 0 where
  pub value : ℕ
  pub digits : List ℕ
  pub after : List ℕ
  pub is : rest ≡ digits ++ after
  pub longest : IsLongest (Number value) digits after
  pub large : NUMBER_MAX < value

-- A fault where no further piece is whole.
abbrev pub IsFault : LexCode → List ℕ → Type 0
IsFault NotUtf8 rest = ⊥
IsFault BadByte rest = IsBadByte rest
IsFault OpenComment rest = IsOpenComment rest
IsFault OpenString rest = IsOpenString rest
IsFault NumberRange rest = IsLargeNumber rest

-- A source that isn't UTF-8 has its fault after its longest prefix that is.
pub record IsNotUtf8 (source : List ℕ) (line column : ℕ) : Type 0 where
  pub valid : ℕ
  pub longest : IsValidUpTo source valid
  pub line_is : line ≡ (place_behind first_place (take valid source)).line
  pub column_is : column ≡ (place_behind first_place (take valid source)).column

-- One that is has its fault after the pieces that are whole.
pub record IsFaultBehind (source : List ℕ) (line column : ℕ) (code : LexCode) : Type 0 where
  pub text : IsUtf8 source
  pub pieces : List SourcePiece
  pub rest : List ℕ
  pub begins : BeginsWithPieces pieces source rest
  pub fault : IsFault code rest
  pub line_is : line ≡ (place_behind first_place (text_of_pieces pieces)).line
  pub column_is : column ≡ (place_behind first_place (text_of_pieces pieces)).column

-- The first lexical fault of a source, with its line, column and code.
abbrev pub FirstLexicalFault : List ℕ → ℕ → ℕ → LexCode → Type 0
FirstLexicalFault source line column NotUtf8 = IsNotUtf8 source line column
FirstLexicalFault source line column code = IsFaultBehind source line column code

-- What a refusal says: the first fault, or that there is no memory.
abbrev pub IsLexicalRefusalOf : List ℕ → LexFault → Type 0
IsLexicalRefusalOf source (At line column code) = FirstLexicalFault source line column code
IsLexicalRefusalOf source Memory = Unit {0}
