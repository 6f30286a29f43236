-- What is collected.
use Rattle.std.specs.Prelude.{◌≡◌, ℕ, List, Result, Ok, Err}
use Rattle.context_model.specs.ContextFault.{IsFirstContextFault}
use Rattle.wire_bytes.specs.Reading.{byte_code_of}
use Rattle.text_lines.specs.Lines.{Line, lines_of}
use Rattle.text_carrier.specs.declared.faults.CarryCode.TheVariants as lines
use Rattle.text_carrier.specs.declared.faults.CarryFault.TheVariants as faults
use Rattle.text_carrier.specs.Collecting.{Collects}
use Rattle.byte_calls.specs.Room.{HoldsBytes, IsTooShortFor}
use Rattle.piece_calls.specs.declared.refusals.PieceCode.{PieceCode}
use Rattle.piece_calls.specs.declared.refusals.PieceCode.TheVariants.{Form, PieceRange, BadBase64, OtherCount, Clash, NoLine, Missing, TooManyBytes}
use Rattle.piece_calls.specs.declared.refusals.PieceRefusal.{PieceRefusal}
use Rattle.piece_calls.specs.declared.refusals.PieceRefusal.TheVariants.{Pieces, Fault, Memory, Room}
use Rattle.piece_calls.specs.Carrying.{IsContext}

-- The lines say no bytes: the first bad one has this number and breaks this rule; or no line is
-- bad, and there is none, or none says the piece of this number and it is the least such one, or
-- the bytes are too many.
abbrev pub IsPiecesFault : List Line → ℕ → PieceCode → Type 0
IsPiecesFault said line Form = Collects said (Err (faults.At line lines.Form))
IsPiecesFault said line PieceRange = Collects said (Err (faults.At line lines.PieceRange))
IsPiecesFault said line BadBase64 = Collects said (Err (faults.At line lines.BadBase64))
IsPiecesFault said line OtherCount = Collects said (Err (faults.At line lines.OtherCount))
IsPiecesFault said line Clash = Collects said (Err (faults.At line lines.Clash))
IsPiecesFault said line NoLine = Collects said (Err faults.NoLine) × (line ≡ 0)
IsPiecesFault said piece Missing = Collects said (Err (faults.Missing piece))
IsPiecesFault said line TooManyBytes = Collects said (Err faults.TooManyBytes) × (line ≡ 0)

-- The lines of the text say these bytes, which are those of a context.
abbrev pub IsCollected : List ℕ → List ℕ → Type 0
IsCollected text bytes = Collects (lines_of text) (Ok bytes) × IsContext bytes

-- Why nothing is collected: the lines say no bytes; or they say bytes that have this first fault.
-- Where memory ran out, nothing is claimed.
abbrev pub IsUncollected : List ℕ → PieceRefusal → Type 0
IsUncollected text (Pieces line code) = IsPiecesFault (lines_of text) line code
IsUncollected text (Fault offset code) =
    (bytes : List ℕ) × Collects (lines_of text) (Ok bytes)
    × IsFirstContextFault bytes offset (byte_code_of code)
IsUncollected text Memory = Unit {0}
IsUncollected text other = ⊥

-- The bytes are at the beginning of the buffer, and the answer is how many they are; or the buffer
-- is too short for them. Or nothing is collected, and the buffer is as before.
abbrev pub CollectsInto : List ℕ → List ℕ → List ℕ → Result ℕ PieceRefusal → Type 0
CollectsInto text old new (Ok size) =
    (bytes : List ℕ) × IsCollected text bytes × HoldsBytes bytes size old new
CollectsInto text old new (Err (Room size)) =
    (bytes : List ℕ) × IsCollected text bytes × IsTooShortFor bytes size old new
CollectsInto text old new (Err refusal) = IsUncollected text refusal × (new ≡ old)
