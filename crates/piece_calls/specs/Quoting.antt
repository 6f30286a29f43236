-- Bytes as the literals of writes.
use Rattle.std.specs.Prelude.{ℕ, List, Result, Ok, Err}
use Rattle.text_model.specs.ScalarTexts.{bytes_text, quoted}
use Rattle.byte_forward.specs.Room.{HoldsBytes, HasNoPlaceFor}
use Rattle.byte_calls.specs.declared.room.TooShort.{TooShort}
use Rattle.piece_calls.specs.declared.quoting.Literal.{Literal}
use Rattle.piece_calls.specs.declared.quoting.Literal.TheVariants.{String, Bytes}

-- The literal of bytes: a string between quotation marks, or hexadecimal digits after `0x`.
abbrev pub literal_text : Literal → List ℕ → List ℕ
literal_text String bytes = quoted bytes
literal_text Bytes bytes = bytes_text bytes

-- The literal is at the beginning of the buffer, and the answer is its size; or the buffer has no
-- place for it, and is as before.
abbrev pub QuotesInto : Literal → List ℕ → List ℕ → List ℕ → Result ℕ TooShort → Type 0
QuotesInto literal bytes old new (Ok size) = HoldsBytes (literal_text literal bytes) size old new
QuotesInto literal bytes old new (Err short) =
    HasNoPlaceFor (literal_text literal bytes) short.size old new
