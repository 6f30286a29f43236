-- Inputs that are read as contexts.
use Rattle.std.specs.Prelude.{◌≡◌, ℕ, ◌+◌, List}
use Rattle.context_model.specs.ContextFault.{IsFirstContextFault}
use Rattle.wire_bytes.specs.Reading.{byte_code_of}
use Rattle.byte_calls.specs.declared.refusals.Refusal.{Refusal}
use Rattle.byte_calls.specs.declared.refusals.Refusal.TheVariants.{Fault, Memory, Room}
pub use Rattle.byte_forward.specs.Contexts.{AreContextsOf, IsMergeOf, IsFaultAt}

-- The refusal tells the fault of some inputs. Where memory ran out, nothing is claimed.
abbrev pub IsInputsRefusalOf : List (List ℕ) → Refusal → Type 0
IsInputsRefusalOf inputs (Fault context offset code) =
    IsFaultAt inputs context offset (byte_code_of code)
IsInputsRefusalOf inputs Memory = Unit {0}
IsInputsRefusalOf inputs (Room size) = ⊥

-- The refusal tells the fault of the bytes at this place. Where memory ran out, nothing is claimed.
abbrev pub IsRefusalAt : ℕ → List ℕ → Refusal → Type 0
IsRefusalAt place bytes (Fault context offset code) =
    (context ≡ place) × IsFirstContextFault bytes offset (byte_code_of code)
IsRefusalAt place bytes Memory = Unit {0}
IsRefusalAt place bytes (Room size) = ⊥

-- The refusal tells the fault of some inputs, the first of which is at this place.
abbrev pub IsRefusalFrom : ℕ → List (List ℕ) → Refusal → Type 0
IsRefusalFrom first inputs (Fault context offset code) =
    (place : ℕ) × (context ≡ first + place) × IsFaultAt inputs place offset (byte_code_of code)
IsRefusalFrom first inputs Memory = Unit {0}
IsRefusalFrom first inputs (Room size) = ⊥
