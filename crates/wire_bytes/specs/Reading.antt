-- What the enums of faults say.
use Rattle.std.specs.Prelude.{◌≡◌, ℕ, ◌<◌, List, ◌≤◌, ◌++◌, length, drop, Option, Some, None, Result, MatchResult}
use Rattle.context_model.specs.Atoms.{Atom, AreAtoms}
use Rattle.context_model.specs.declared.Form.{Form}
use Rattle.context_model.specs.Framing.{frames, form_of, head_len, bytes_of, AreWithin}
use Rattle.context_model.specs.ByteCodes.{ByteCode as PlainCode}
use Rattle.context_model.specs.ByteCodes as plain
use Rattle.context_model.specs.WireFault.{head_code, IsUnframed, IsFirstWireFault}
use Rattle.context_model.specs.WellFormed.{IsWellFormed}
use Rattle.context_model.specs.ContextFault.{IsFirstContextFault}
use Rattle.wire_bytes.specs.declared.reading.WireCode.{WireCode}
use Rattle.wire_bytes.specs.declared.reading.WireCode.TheVariants.{CutLength, BadCount, AtomTooLong, LongForm, CutBody}
use Rattle.wire_bytes.specs.declared.reading.WireFault.{WireFault}
use Rattle.wire_bytes.specs.declared.reading.WireFault.TheVariants.{At, Memory}
use Rattle.wire_bytes.specs.declared.contexts.ByteCode.{ByteCode}
use Rattle.wire_bytes.specs.declared.contexts.ByteCode.TheVariants as bytes
use Rattle.wire_bytes.specs.declared.contexts.ContextFault.{ContextFault}
use Rattle.wire_bytes.specs.declared.contexts.ContextFault.TheVariants as contexts

-- What a code of bytes says.
abbrev pub code_of : WireCode → PlainCode
code_of CutLength = plain.ByteCode.CutLength
code_of BadCount = plain.ByteCode.BadCount
code_of AtomTooLong = plain.ByteCode.AtomTooLong
code_of LongForm = plain.ByteCode.LongForm
code_of CutBody = plain.ByteCode.CutBody

-- What a code of a context's bytes says.
abbrev pub byte_code_of : ByteCode → PlainCode
byte_code_of bytes.CutLength = plain.ByteCode.CutLength
byte_code_of bytes.BadCount = plain.ByteCode.BadCount
byte_code_of bytes.AtomTooLong = plain.ByteCode.AtomTooLong
byte_code_of bytes.LongForm = plain.ByteCode.LongForm
byte_code_of bytes.CutBody = plain.ByteCode.CutBody
byte_code_of bytes.BadPrefix = plain.ByteCode.BadPrefix
byte_code_of bytes.BadIndex = plain.ByteCode.BadIndex
byte_code_of bytes.LevelJump = plain.ByteCode.LevelJump
byte_code_of bytes.OutOfOrder = plain.ByteCode.OutOfOrder

-- The answer names the first fault. Where memory ran out, nothing is claimed.
abbrev pub IsWireRefusalOf : List ℕ → WireFault → Type 0
IsWireRefusalOf input (At offset code) = IsFirstWireFault input offset (code_of code)
IsWireRefusalOf input Memory = Unit {0}

-- The answer names the first fault of a context. Where memory ran out, nothing is claimed.
abbrev pub IsContextRefusalOf : List ℕ → ContextFault → Type 0
IsContextRefusalOf input (contexts.At offset code) =
    IsFirstContextFault input offset (byte_code_of code)
IsContextRefusalOf input contexts.Memory = Unit {0}

-- A fault of a context says the same as one of a list.
abbrev pub SaysFault : WireFault → ContextFault → Type 0
SaysFault (At offset code) (contexts.At offset' code') =
    (offset' ≡ offset) × (byte_code_of code' ≡ code_of code)
SaysFault Memory contexts.Memory = Unit {0}
SaysFault other fault = ⊥

-- A list whose bytes these are, in whatever form, is the answer, unless there was no memory.
abbrev pub ReadsAny : List ℕ → Result (List Atom) WireFault → Type 0
ReadsAny input answer =
    (form : Form) (list : List Atom) → AreAtoms list → input ≡ bytes_of form list
    → MatchResult answer (λ made. made ≡ list) (λ fault. fault ≡ Memory)

-- A context whose bytes these are, in whatever form, is the answer, unless there was no memory.
abbrev pub ReadsAnyContext : List ℕ → Result (List Atom) ContextFault → Type 0
ReadsAnyContext input answer =
    (form : Form) (list : List Atom) → AreAtoms list → IsWellFormed list
    → input ≡ bytes_of form list
    → MatchResult answer (λ made. made ≡ list) (λ fault. fault ≡ contexts.Memory)

-- ---- where a reader stops

-- The bytes are the frames of the list, or they go on after them with what can't be read.
abbrev pub StopsAt : Form → List ℕ → List Atom → Option (ℕ × WireCode) → Type 0
StopsAt form bytes list None = bytes ≡ frames form list
StopsAt form bytes list (Some fault) =
    (fault.0 ≡ length (frames form list))
    × ((rest : List ℕ) × (bytes ≡ frames form list ++ rest) × (0 < length rest)
    × IsUnframed form rest (code_of fault.1))

-- The input has a right head, and after it the reader stops there.
pub record ReadsUpTo (input : List ℕ) (list : List Atom)
    (stop : Option (ℕ × WireCode)) : Type 0 where
  pub right : head_code (form_of input) input ≡ None
  pub long : head_len (form_of input) ≤ length input
  pub within : AreWithin (form_of input) list
  pub stops : StopsAt (form_of input) (drop (head_len (form_of input)) input) list stop

-- The answer names what is wrong with the head, at its number. Where memory ran out, nothing is
-- claimed.
abbrev pub IsHeadFaultOf : List ℕ → WireFault → Type 0
IsHeadFaultOf input (At offset code) =
    (offset ≡ 4) × (head_code (form_of input) input ≡ Some (code_of code))
IsHeadFaultOf input Memory = Unit {0}
