-- What is written into a buffer, and what is left of it.
use Rattle.std.specs.Prelude.{◌≡◌, ℕ, ◌^◌, ◌<◌, ◌≤◌, List, ◌++◌, length, drop, Result, Ok, Err}
use Rattle.context_model.specs.declared.Form.{Form}
use Rattle.context_model.specs.Atoms.{Atom}
use Rattle.context_model.specs.ByteCodes.{ByteCode}
use Rattle.context_model.specs.Framing.{bytes_of}
use Rattle.wire_bytes.specs.Reading.{byte_code_of}
use Rattle.byte_forward.specs.declared.refusals.ByteRefusal.{ByteRefusal}
use Rattle.byte_forward.specs.declared.refusals.ByteRefusal.TheVariants.{Fault, Room}

-- The buffer has place for these bytes, whose number is `size`: it begins with them, and goes on as
-- before.
abbrev pub HoldsBytes : List ℕ → ℕ → List ℕ → List ℕ → Type 0
HoldsBytes bytes size old new =
    (size ≡ length bytes) × (size ≤ length old) × (new ≡ bytes ++ drop size old)

-- The buffer has no place for these bytes, whose number is `size`, and is as before.
abbrev pub IsTooShortFor : List ℕ → ℕ → List ℕ → List ℕ → Type 0
IsTooShortFor bytes size old new = (size ≡ length bytes) × (length old < size) × (new ≡ old)

-- The buffer has no place for these bytes and is as before, and the answer is how many they are
-- where they are fewer than 2 ^ 64.
abbrev pub HasNoPlaceFor : List ℕ → ℕ → List ℕ → List ℕ → Type 0
HasNoPlaceFor bytes size old new =
    (length bytes < 2 ^ 64 → size ≡ length bytes) × (length old < length bytes) × (new ≡ old)

-- A list for which the first fact holds is written into the buffer, and its size is the answer.
-- Otherwise nothing is written: the buffer is too short for such a list, of whose size the answer
-- is, or an input has a fault, for which the second fact holds.
abbrev pub WritesBytes : Form → (List Atom → Type 0) → (ℕ → ℕ → ByteCode → Type 0) → List ℕ → List ℕ
    → Result ℕ ByteRefusal → Type 0
WritesBytes form IsMade IsFault old new (Ok size) =
    (list : List Atom) × IsMade list × HoldsBytes (bytes_of form list) size old new
WritesBytes form IsMade IsFault old new (Err (Fault context offset code)) =
    IsFault context offset (byte_code_of code) × (new ≡ old)
WritesBytes form IsMade IsFault old new (Err (Room size)) =
    (list : List Atom) × IsMade list × IsTooShortFor (bytes_of form list) size old new

-- A list that no budget bounds, for which the first fact holds, is written into the buffer, and its
-- size is the answer. Otherwise nothing is written: the buffer is too short for such a list, of
-- whose size the answer is where it can be reported, or an input has a fault, for which the second
-- fact holds.
abbrev pub WritesWhole : Form → (List Atom → Type 0) → (ℕ → ℕ → ByteCode → Type 0) → List ℕ → List ℕ
    → Result ℕ ByteRefusal → Type 0
WritesWhole form IsMade IsFault old new (Ok size) =
    (list : List Atom) × IsMade list × HoldsBytes (bytes_of form list) size old new
WritesWhole form IsMade IsFault old new (Err (Fault context offset code)) =
    IsFault context offset (byte_code_of code) × (new ≡ old)
WritesWhole form IsMade IsFault old new (Err (Room size)) =
    (list : List Atom) × IsMade list × HasNoPlaceFor (bytes_of form list) size old new
