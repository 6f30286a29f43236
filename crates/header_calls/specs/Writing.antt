-- What is written for a context.
use Rattle.std.specs.Prelude.{◌≡◌, ℕ, List, Result, Ok, Err}
use Rattle.context_model.specs.Atoms.{Atom}
use Rattle.context_model.specs.ContextFault.{IsContextOf, IsFirstContextFault}
use Rattle.wire_bytes.specs.Reading.{byte_code_of}
use Rattle.byte_forward.specs.Room.{HoldsBytes, IsTooShortFor}
use Rattle.byte_forward.specs.declared.refusals.ByteRefusal.{ByteRefusal}
use Rattle.byte_forward.specs.declared.refusals.ByteRefusal.TheVariants.{Fault, Room}
use Rattle.header_text.specs.Texts.{header_text}

-- The bytes are those of a context.
abbrev pub IsAnyContext : List ℕ → Type 0
IsAnyContext bytes = (list : List Atom) × IsContextOf list bytes

-- The text of a context's bytes is at the beginning of the buffer, and the answer is its size; or
-- the buffer is too short for it. Or the bytes have a fault, and the buffer is as before.
abbrev pub WritesHeader : List ℕ → List ℕ → List ℕ → Result ℕ ByteRefusal → Type 0
WritesHeader context old new (Ok size) =
    IsAnyContext context × HoldsBytes (header_text context) size old new
WritesHeader context old new (Err (Room size)) =
    IsAnyContext context × IsTooShortFor (header_text context) size old new
WritesHeader context old new (Err (Fault place offset code)) =
    (place ≡ 0) × IsFirstContextFault context offset (byte_code_of code) × (new ≡ old)
