-- The pieces that bytes are cut into, and their lines.
use Rattle.std.specs.Prelude.{ℕ, ◌*◌, ◌<◌, ◌≤◌, max, List, [], ◌∷◌, ◌++◌, map, length, take, drop}
use Rattle.std.specs.Int.{div_ceil}
use Rattle.std.specs.List.{Contains, flat_map, range_with_len}
use Rattle.base64.specs.GeneralPurpose.{IsBytes}
use Rattle.text_carrier.specs.declared.TheConstants.{WIDTH_MIN, WIDTH_MAX, CARRIED_MAX}
use Rattle.text_carrier.specs.Pieces.{Piece, piece_line}

-- How many pieces of this width some bytes have: no bytes have one piece.
abbrev pub piece_count : ℕ → List ℕ → ℕ
piece_count width bytes = max (div_ceil (length bytes) width) 1

-- The piece of this number: `width` bytes, and in the last one the rest.
abbrev pub piece_at : ℕ → List ℕ → ℕ → Piece
piece_at width bytes place = record {
  place = place;
  count = piece_count width bytes;
  bytes = take width (drop (place * width) bytes);
}

-- The lines of all pieces, in order.
abbrev pub carried_lines : ℕ → List ℕ → List (List ℕ)
carried_lines width bytes =
    map (λ place. piece_line (piece_at width bytes place))
    (range_with_len 0 (piece_count width bytes))

-- Lines as a text: each ends with a line feed.
abbrev pub text_of_lines : List (List ℕ) → List ℕ
text_of_lines lines = flat_map (λ line. line ++ 10 ∷ []) lines

-- The text of the lines of all pieces.
abbrev pub carried_text : ℕ → List ℕ → List ℕ
carried_text width bytes = text_of_lines (carried_lines width bytes)

-- Bytes that may be carried in pieces of this width.
pub record IsCarried (width : ℕ) (bytes : List ℕ) : Type 0 where
  pub least : WIDTH_MIN ≤ width
  pub most : width ≤ WIDTH_MAX
  pub few : length bytes ≤ CARRIED_MAX
  pub are_bytes : IsBytes bytes

-- The lines that were sent are lines of the bytes: each of them as often as one likes, in any
-- order, and no other.
abbrev pub AreSome : ℕ → List ℕ → List (List ℕ) → Type 0
AreSome width bytes sent =
    (line : List ℕ) → Contains sent line → Contains (carried_lines width bytes) line

-- Each line of the bytes is among these.
abbrev pub AreAll : ℕ → List ℕ → List (List ℕ) → Type 0
AreAll width bytes sent =
    (line : List ℕ) → Contains (carried_lines width bytes) line → Contains sent line

-- The piece of this number is the first whose line isn't among these.
pub record IsFirstLost (width : ℕ) (bytes : List ℕ) (sent : List (List ℕ))
    (place : ℕ) : Type 0 where
  pub within : place < piece_count width bytes
  pub lost : Contains sent (piece_line (piece_at width bytes place)) → ⊥
  pub first : (other : ℕ) → other < place → Contains sent (piece_line (piece_at width bytes other))
