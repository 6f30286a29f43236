-- One step of the lexer: what the crate's own functions say of a piece.
use Rattle.std.specs.Prelude.{◌≡◌, ℕ, ◌+◌, ◌<◌, ◌≤◌, Option, List, ◌++◌, length, take, drop, slice_index}
use Rattle.bdl_lexer.specs.declared.LexFault.{LexFault}
use Rattle.bdl_lexer.specs.declared.LexFault.TheVariants.{At, Memory}
use Rattle.bdl_lexer.specs.declared.lexer.Place.{Place}
use Rattle.bdl_lexer.specs.declared.Token.{Token}
use Rattle.bdl_lexer.specs.declared.TokenClass.{TokenClass}
use Rattle.bdl_lexer.specs.Bytes.{star, slash}
use Rattle.bdl_lexer.specs.Faults.{IsFault}
use Rattle.bdl_lexer.specs.Scan.{IsPiece, HasNoClose}
use Rattle.bdl_lexer.specs.Places.{place_behind}
use Rattle.bdl_lexer.specs.Tokens.{SourcePiece, token_at}

-- The first len bytes are a piece of that class.
pub record StandsFirst (class : Option TokenClass) (len : ℕ) (bytes : List ℕ) : Type 0 where
  pub some : 0 < len
  pub within : len ≤ length bytes
  pub piece : IsPiece class (take len bytes) (drop len bytes)

-- The first "*/" begins at this byte.
pub record ClosesAt (bytes : List ℕ) (at : ℕ) : Type 0 where
  pub within : at + 1 < length bytes
  pub star_is : slice_index bytes at ≡ star
  pub slash_is : slice_index bytes (at + 1) ≡ slash
  pub first : HasNoClose (take (at + 1) bytes)

-- A piece was taken from the beginning of the bytes, and the answer is its token.
pub record IsTaken (before : List ℕ) (place : Place) (after : List ℕ) (next : Place)
    (answer : Option Token) : Type 0 where
  pub piece : SourcePiece
  pub is : before ≡ piece.text ++ after
  pub some : 0 < length piece.text
  pub whole : IsPiece piece.class piece.text after
  pub next_is : next ≡ place_behind place piece.text
  pub answer_is : answer ≡ token_at place piece

-- The fault is of what is left, at its place.
abbrev pub IsFaultHere : List ℕ → Place → LexFault → Type 0
IsFaultHere rest place (At line column code) =
    (line ≡ place.line) × (column ≡ place.column) × IsFault code rest
IsFaultHere rest place Memory = ⊥
