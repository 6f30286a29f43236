-- Pieces of bytes, and the lines that say them.
use Rattle.std.specs.Prelude.{ℕ, ◌==◌, if◌then◌else◌, List, [], ◌∷◌, length, codes}
use Rattle.std.specs.Fmt.{decimal}
use Rattle.std.specs.List.{join_with_byte}
use Rattle.base64.specs.Engines.{standard}
use Rattle.base64.specs.GeneralPurpose.{encode_of}

-- A piece of some bytes: its number, from 0, the number of all pieces, and its own bytes.
pub record Piece : Type 0 where
  pub place : ℕ
  pub count : ℕ
  pub bytes : List ℕ

-- The text of a piece's bytes: their base64 with padding, or a dash for none.
abbrev pub data_text : List ℕ → List ℕ
data_text bytes = if length bytes == 0 then codes "-" else encode_of standard bytes

-- A line: p, two numbers and a word, one space between two of them.
abbrev pub line_in_piece_form : ℕ → ℕ → List ℕ → List ℕ
line_in_piece_form place count word =
    join_with_byte 32 (codes "p" ∷ decimal place ∷ decimal count ∷ word ∷ [])

-- The line that says a piece.
abbrev pub piece_line : Piece → List ℕ
piece_line piece = line_in_piece_form piece.place piece.count (data_text piece.bytes)
