-- What lines of pieces come to, put together.
use Rattle.std.specs.Prelude.{◌≡◌, ◌⊎◌, ℕ, List, Ok, Err}
use Rattle.context_model.specs.ContextFault.{IsFirstContextFault}
use Rattle.text_carrier.specs.Collecting.{Collects}
use Rattle.text_carrier.specs.declared.faults.CarryFault.{CarryFault}
use Rattle.text_carrier.specs.declared.faults.CarryFault.TheVariants as pieces
use Rattle.text_lines.specs.HexLines.{hex_line}
use Rattle.text_lines.specs.Lines.{Line}
use Rattle.wire_bytes.specs.declared.contexts.ByteCode.{ByteCode}
use Rattle.wire_bytes.specs.Reading.{byte_code_of}
use Rattle.baggage_cli.specs.declared.refusals.InputFault.TheVariants.{Bytes}
use Rattle.baggage_cli.specs.declared.refusals.Refusal.{Refusal}
use Rattle.baggage_cli.specs.declared.refusals.Refusal.TheVariants.{Input}
use Rattle.baggage_cli.specs.Carry.{AreOfContext}
use Rattle.baggage_cli.specs.Outcomes.{Outcome}
use Rattle.baggage_cli.specs.Refusals.{piece_refusal}

-- The lines are refused for what they say of pieces.
abbrev pub RefusesPieces : List Line → Refusal → Type 0
RefusesPieces lines refusal =
    (fault : CarryFault) × (fault ≡ pieces.Memory → ⊥) × Collects lines (Err fault)
    × (refusal ≡ piece_refusal fault)

-- The bytes that lines say are no context's: this is the first thing that is wrong with them. They
-- belong to no line.
abbrev pub RefusesCollected : List Line → Refusal → Type 0
RefusesCollected lines refusal =
    (bytes : List ℕ) × (offset : ℕ) × (code : ByteCode) × Collects lines (Ok bytes)
    × IsFirstContextFault bytes offset (byte_code_of code) × (refusal ≡ Input 0 (Bytes offset code))

-- What lines come to, put together: the line of the bytes that their pieces say, where these are a
-- context's.
abbrev pub CollectsLines : List Line → Outcome → Type 0
CollectsLines lines (Ok output) =
    (bytes : List ℕ) × Collects lines (Ok bytes) × AreOfContext bytes × (output ≡ hex_line bytes)
CollectsLines lines (Err refusal) = RefusesPieces lines refusal ⊎ RefusesCollected lines refusal
