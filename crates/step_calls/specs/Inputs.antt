-- Inputs that are read as typed contexts.
use Rattle.std.specs.Prelude.{◌≡◌, ℕ, zero, suc, List, [], ◌∷◌}
use Rattle.context_model.specs.Atoms.{Atom}
use Rattle.context_model.specs.ContextFault.{IsFirstContextFault}
use Rattle.bag_model.specs.Shapes.{Nodes}
use Rattle.wire_bytes.specs.Reading.{byte_code_of}
use Rattle.field_calls.specs.Reading.{IsTypedContextOf, IsIllTypedAt}
use Rattle.step_calls.specs.declared.refusals.StepRefusal.{StepRefusal}
use Rattle.step_calls.specs.declared.refusals.StepRefusal.TheVariants.{Fault, IllTyped, Memory}

-- The inputs are the bytes of these contexts, one by one, each typed under the table.
abbrev pub AreTypedContextsOf : Nodes → List (List Atom) → List (List ℕ) → Type 0
AreTypedContextsOf nodes [] [] = Unit {0}
AreTypedContextsOf nodes (list ∷ lists) (bytes ∷ inputs) =
    IsTypedContextOf nodes list bytes × AreTypedContextsOf nodes lists inputs
AreTypedContextsOf nodes lists inputs = ⊥

-- The inputs before this place are the bytes of typed contexts, and the fact holds of the input at
-- this place.
abbrev pub IsFirstMisread : Nodes → (List ℕ → Type 0) → List (List ℕ) → ℕ → Type 0
IsFirstMisread nodes Misread [] place = ⊥
IsFirstMisread nodes Misread (bytes ∷ inputs) zero = Misread bytes
IsFirstMisread nodes Misread (bytes ∷ inputs) (suc place) =
    ((list : List Atom) × IsTypedContextOf nodes list bytes)
    × IsFirstMisread nodes Misread inputs place

-- The first input that isn't the bytes of a typed context is that at the place of which the refusal
-- tells: it ceases to be the bytes of a context, or it is, and has an atom that isn't spelled as
-- the table says. Where memory ran out, nothing is claimed.
abbrev pub IsMisreadOf : Nodes → List (List ℕ) → StepRefusal → Type 0
IsMisreadOf nodes inputs (Fault context offset code) =
    IsFirstMisread nodes
    (λ bytes. IsFirstContextFault bytes offset (byte_code_of code)) inputs context
IsMisreadOf nodes inputs (IllTyped context offset) =
    IsFirstMisread nodes (λ bytes. IsIllTypedAt nodes bytes offset) inputs context
IsMisreadOf nodes inputs Memory = Unit {0}
IsMisreadOf nodes inputs other = ⊥

-- The bytes at this place are those of no typed context, for the reason that the refusal tells.
-- Where memory ran out, nothing is claimed.
abbrev pub IsMisreadAt : Nodes → ℕ → List ℕ → StepRefusal → Type 0
IsMisreadAt nodes place bytes (Fault context offset code) =
    (context ≡ place) × IsFirstContextFault bytes offset (byte_code_of code)
IsMisreadAt nodes place bytes (IllTyped context offset) =
    (context ≡ place) × IsIllTypedAt nodes bytes offset
IsMisreadAt nodes place bytes Memory = Unit {0}
IsMisreadAt nodes place bytes other = ⊥
