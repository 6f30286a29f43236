-- What is written into a buffer, and what is left of it.
use Rattle.std.specs.Prelude.{◌≡◌, ℕ, List, Result, Ok, Err}
use Rattle.context_model.specs.declared.Form.{Form}
use Rattle.context_model.specs.Atoms.{Atom}
use Rattle.context_model.specs.ByteCodes.{ByteCode}
use Rattle.context_model.specs.Framing.{bytes_of}
use Rattle.wire_bytes.specs.Reading.{byte_code_of}
pub use Rattle.byte_forward.specs.Room.{HoldsBytes, IsTooShortFor}
use Rattle.byte_calls.specs.declared.refusals.Refusal.{Refusal}
use Rattle.byte_calls.specs.declared.refusals.Refusal.TheVariants.{Fault, Memory, Room}

-- A list for which the first fact holds is written into the buffer, and its size is the answer.
-- Otherwise nothing is written: the buffer is too short for such a list, of whose size the answer
-- is; or an input has a fault, for which the second fact holds; or there is no memory.
abbrev pub WritesList : Form → (List Atom → Type 0) → (ℕ → ℕ → ByteCode → Type 0) → List ℕ → List ℕ
    → Result ℕ Refusal → Type 0
WritesList form IsMade IsFault old new (Ok size) =
    (list : List Atom) × IsMade list × HoldsBytes (bytes_of form list) size old new
WritesList form IsMade IsFault old new (Err (Fault context offset code)) =
    IsFault context offset (byte_code_of code) × (new ≡ old)
WritesList form IsMade IsFault old new (Err Memory) = new ≡ old
WritesList form IsMade IsFault old new (Err (Room size)) =
    (list : List Atom) × IsMade list × IsTooShortFor (bytes_of form list) size old new
