-- Inputs that are read as contexts.
use Rattle.std.specs.Prelude.{◌≡◌, ℕ, zero, suc, List, [], ◌∷◌}
use Rattle.context_model.specs.Atoms.{Atom}
use Rattle.context_model.specs.ByteCodes.{ByteCode}
use Rattle.context_model.specs.ContextFault.{IsContextOf, IsFirstContextFault}
use Rattle.context_model.specs.Merged.{IsMerged}
use Rattle.wire_bytes.specs.Reading.{byte_code_of}
use Rattle.byte_forward.specs.declared.refusals.ByteRefusal.{ByteRefusal}
use Rattle.byte_forward.specs.declared.refusals.ByteRefusal.TheVariants.{Fault, Room}

-- The inputs are the bytes of these contexts, one by one.
abbrev pub AreContextsOf : List (List Atom) → List (List ℕ) → Type 0
AreContextsOf [] [] = Unit {0}
AreContextsOf (list ∷ lists) (bytes ∷ inputs) = IsContextOf list bytes × AreContextsOf lists inputs
AreContextsOf lists inputs = ⊥

-- The inputs are the bytes of contexts, and this is their merge.
abbrev pub IsMergeOf : List (List ℕ) → List Atom → Type 0
IsMergeOf inputs merged =
    (lists : List (List Atom)) × AreContextsOf lists inputs × IsMerged lists merged

-- The inputs before this place are the bytes of contexts, and the one at this place isn't: its
-- first fault.
abbrev pub IsFaultAt : List (List ℕ) → ℕ → ℕ → ByteCode → Type 0
IsFaultAt [] place offset code = ⊥
IsFaultAt (bytes ∷ inputs) zero offset code = IsFirstContextFault bytes offset code
IsFaultAt (bytes ∷ inputs) (suc place) offset code =
    ((list : List Atom) × IsContextOf list bytes) × IsFaultAt inputs place offset code

-- The refusal tells the fault of the bytes at this place.
abbrev pub IsFaultOf : ℕ → List ℕ → ByteRefusal → Type 0
IsFaultOf place bytes (Fault context offset code) =
    (context ≡ place) × IsFirstContextFault bytes offset (byte_code_of code)
IsFaultOf place bytes (Room size) = ⊥
