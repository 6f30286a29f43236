-- What is carried.
use Rattle.std.specs.Prelude.{◌≡◌, ◌⊎◌, ℕ, ◌<◌, ◌≤◌, List, length, Result, Ok, Err}
use Rattle.context_model.specs.Atoms.{Atom}
use Rattle.context_model.specs.ContextFault.{IsContextOf, IsFirstContextFault}
use Rattle.wire_bytes.specs.Reading.{byte_code_of}
use Rattle.text_carrier.specs.declared.TheConstants.{WIDTH_MIN, WIDTH_MAX, CARRIED_MAX}
use Rattle.text_carrier.specs.Carrying.{IsCarried, carried_text}
use Rattle.byte_calls.specs.Room.{HoldsBytes, IsTooShortFor}
use Rattle.piece_calls.specs.declared.refusals.PieceRefusal.{PieceRefusal}
use Rattle.piece_calls.specs.declared.refusals.PieceRefusal.TheVariants.{Width, Fault, Long, Memory, Room}

-- Pieces have this width.
abbrev pub IsWidth : ℕ → Type 0
IsWidth width = (WIDTH_MIN ≤ width) × (width ≤ WIDTH_MAX)

-- Pieces don't have this width.
abbrev pub IsNoWidth : ℕ → Type 0
IsNoWidth width = (width < WIDTH_MIN) ⊎ (WIDTH_MAX < width)

-- The bytes are those of a context.
abbrev pub IsContext : List ℕ → Type 0
IsContext bytes = (list : List Atom) × IsContextOf list bytes

-- The bytes are those of a context, and may be carried in pieces of this width.
abbrev pub MayCarry : ℕ → List ℕ → Type 0
MayCarry width bytes = IsContext bytes × IsCarried width bytes

-- Why nothing is carried: pieces haven't this width; or they have, and the bytes have this first
-- fault; or they are those of a context, and too many, and this is their number. Where memory ran
-- out, pieces have this width, and nothing else is claimed.
abbrev pub IsUncarried : ℕ → List ℕ → PieceRefusal → Type 0
IsUncarried width bytes Width = IsNoWidth width
IsUncarried width bytes (Fault offset code) =
    IsWidth width × IsFirstContextFault bytes offset (byte_code_of code)
IsUncarried width bytes (Long size) =
    IsWidth width × IsContext bytes × (size ≡ length bytes) × (CARRIED_MAX < size)
IsUncarried width bytes Memory = IsWidth width
IsUncarried width bytes other = ⊥

-- The lines of the pieces are at the beginning of the buffer, and the answer is their size; or the
-- buffer is too short for them. Or nothing is carried, and the buffer is as before.
abbrev pub CarriesInto : ℕ → List ℕ → List ℕ → List ℕ → Result ℕ PieceRefusal → Type 0
CarriesInto width bytes old new (Ok size) =
    MayCarry width bytes × HoldsBytes (carried_text width bytes) size old new
CarriesInto width bytes old new (Err (Room size)) =
    MayCarry width bytes × IsTooShortFor (carried_text width bytes) size old new
CarriesInto width bytes old new (Err refusal) = IsUncarried width bytes refusal × (new ≡ old)
