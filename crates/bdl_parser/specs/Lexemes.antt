-- What the grammar sees of a token.
use Rattle.std.specs.Prelude.{ℕ, List, map}
use Rattle.bdl_lexer.specs.declared.Token.{Token}
use Rattle.bdl_lexer.specs.declared.TokenClass.{TokenClass}
use Rattle.bdl_lexer.specs.declared.TokenClass.TheVariants.{Word, Number, Text, Sign}
use Rattle.bdl_lexer.specs.Spans.{token_text, between_quotes}
use Rattle.bdl_parser.specs.declared.trees.Spot.{Spot}

-- A word, a number, the characters between two quotes, or a sign.
pub data What : Type 0 where
  word : List ℕ → What
  number : ℕ → What
  quoted : List ℕ → What
  sign : ℕ → What

-- What a token says, and where it is.
pub record Lexeme : Type 0 where
  pub what : What
  pub spot : Spot

-- What a token of that class and text says.
abbrev pub what_of : TokenClass → List ℕ → What
what_of Word text = word text
what_of (Number value) text = number value
what_of Text text = quoted (between_quotes text)
what_of (Sign byte) text = sign byte

-- The place of a token.
abbrev pub token_place : Token → Spot
token_place token = record { line = token.line; column = token.column }

-- What a token of this source says, and where.
abbrev pub lexeme_of : List ℕ → Token → Lexeme
lexeme_of source token =
    record { what = what_of token.class (token_text source token); spot = token_place token }

-- What each token of this source says, and where.
abbrev pub lexemes_of : List ℕ → List Token → List Lexeme
lexemes_of source tokens = map (lexeme_of source) tokens
