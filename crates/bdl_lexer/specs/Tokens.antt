-- The tokens of a source.
use Rattle.std.specs.Prelude.{◌≡◌, ℕ, Option, List, [], ◌∷◌, ◌++◌, length}
use Rattle.std.specs.List.{flat_map}
use Rattle.std.specs.Option.{option_map, option_to_list}
use Rattle.std.specs.Str.{IsUtf8}
use Rattle.bdl_lexer.specs.declared.lexer.Place.{Place}
use Rattle.bdl_lexer.specs.declared.Token.{Token}
use Rattle.bdl_lexer.specs.declared.TokenClass.{TokenClass}
use Rattle.bdl_lexer.specs.Scan.{IsPiece}
use Rattle.bdl_lexer.specs.Places.{first_place, place_behind}

-- A piece: its bytes, and its class where it is a token.
pub record SourcePiece : Type 0 where
  pub class : Option TokenClass
  pub text : List ℕ

-- The source begins with these pieces, one after another, and then comes the rest.
abbrev pub BeginsWithPieces : List SourcePiece → List ℕ → List ℕ → Type 0
BeginsWithPieces [] source rest = source ≡ rest
BeginsWithPieces (piece ∷ pieces) source rest =
    (after : List ℕ) × (source ≡ piece.text ++ after) × IsPiece piece.class piece.text after
    × BeginsWithPieces pieces after rest

-- A token of that length and class at this place.
abbrev pub token_of : Place → ℕ → TokenClass → Token
token_of place len class =
    record { class = class; at = place.at; len = len; line = place.line; column = place.column }

-- The token that a piece at this place is, if it is one.
abbrev pub token_at : Place → SourcePiece → Option Token
token_at place piece = option_map (token_of place (length piece.text)) piece.class

-- The tokens among pieces that begin at this place.
abbrev pub tokens_from : Place → List SourcePiece → List Token
tokens_from place [] = []
tokens_from place (piece ∷ pieces) =
    option_to_list (token_at place piece) ++ tokens_from (place_behind place piece.text) pieces

-- The bytes of these pieces.
abbrev pub text_of_pieces : List SourcePiece → List ℕ
text_of_pieces pieces = flat_map (λ piece. piece.text) pieces

-- The tokens of a source: it is UTF-8, pieces make it up, and these are the tokens among them.
pub record AreTokensOf (source : List ℕ) (tokens : List Token) : Type 0 where
  pub text : IsUtf8 source
  pub pieces : List SourcePiece
  pub cover : BeginsWithPieces pieces source []
  pub are : tokens ≡ tokens_from first_place pieces
