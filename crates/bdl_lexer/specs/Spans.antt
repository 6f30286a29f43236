-- What the tokens of a source say of it, token by token.
use Rattle.std.specs.Prelude.{ℕ, ◌+◌, ◌-◌, ◌≤◌, List, [], ◌∷◌, length, take, drop}
use Rattle.std.specs.Str.{IsUtf8}
use Rattle.bdl_lexer.specs.declared.Token.{Token}
use Rattle.bdl_lexer.specs.declared.TokenClass.{TokenClass}
use Rattle.bdl_lexer.specs.declared.TokenClass.TheVariants.{Word, Text}
use Rattle.bdl_lexer.specs.Scan.{IsToken}

-- The bytes of a token.
abbrev pub token_text : List ℕ → Token → List ℕ
token_text source token = take token.len (drop token.at source)

-- The bytes after a token.
abbrev pub behind_token : List ℕ → Token → List ℕ
behind_token source token = drop token.len (drop token.at source)

-- The bytes between the first and the last.
abbrev pub between_quotes : List ℕ → List ℕ
between_quotes text = take (length text - 2) (drop 1 text)

-- A Word, and what is between the quotes of a Text, is UTF-8.
abbrev pub IsSpelledToken : TokenClass → List ℕ → Type 0
IsSpelledToken Word text = IsUtf8 text
IsSpelledToken Text text = (2 ≤ length text) × IsUtf8 (between_quotes text)
IsSpelledToken _ text = Unit {0}

-- A token's bytes are in the source, are the longest token there, and are spelled in UTF-8.
pub record LiesIn (source : List ℕ) (token : Token) : Type 0 where
  pub within : token.at + token.len ≤ length source
  pub longest : IsToken token.class (token_text source token) (behind_token source token)
  pub spelled : IsSpelledToken token.class (token_text source token)

-- Each token begins at this byte or after it, and the next one at its end or after it.
abbrev pub AreInOrder : ℕ → List Token → Type 0
AreInOrder from [] = Unit {0}
AreInOrder from (token ∷ tokens) = (from ≤ token.at) × AreInOrder (token.at + token.len) tokens
