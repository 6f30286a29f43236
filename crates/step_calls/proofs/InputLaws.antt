-- Inputs that are read one after another.
use Rattle.std.proofs.Common.{◌≡◌, ℕ, zero, suc, ◌+◌, ◌≤◌, ◌<◌, List, [], ◌∷◌, ◌++◌, length, take, drop, map, get_or, Result, Ok, Err, IfErr, refl, sym, ap, ◌∙◌, subst, arith}
use Rattle.std.specs.Result.{IsErrAnd}
use Rattle.std.proofs.lemmas.List.{take_all, length-map}
use Rattle.context_model.specs.declared.Form.{Form}
use Rattle.context_model.specs.Atoms.{Atom}
use Rattle.context_model.specs.Framing.{written_in, offset_of, size_of}
use Rattle.context_model.proofs.FramingLaws.{size_is, frames_len-front}
use Rattle.context_model.specs.ContextFault.{IsFirstContextFault}
use Rattle.bag_model.specs.Shapes.{Nodes}
use Rattle.wire_bytes.specs.Reading.{byte_code_of}
use Rattle.byte_calls.specs.declared.spans.Span.{Span}
use Rattle.byte_calls.specs.Spans.{inputs_of}
use Rattle.field_calls.specs.Reading.{IsTypedContextOf, IsIllTypedAt}
use Rattle.step_calls.specs.declared.refusals.StepRefusal.{StepRefusal}
use Rattle.step_calls.specs.declared.refusals.StepRefusal.TheVariants.{Table, Write, Fault, IllTyped, Memory, Room}
use Rattle.step_calls.specs.Inputs.{AreTypedContextsOf, IsFirstMisread, IsMisreadOf, IsMisreadAt}

-- The bytes before an atom are some of all.
pub offset_within : (form : Form) (list : List Atom) (place : ℕ) → offset_of form list place ≤ size_of form list
offset_within form list place = omega (arith, size_is form list, frames_len-front (written_in form list) place list)

-- The inputs before a place are contexts, and so is the one there.
typed_more : (nodes : Nodes) (inputs : List (List ℕ)) (place : ℕ) (lists : List (List Atom)) (list : List Atom) → place < length inputs
    → AreTypedContextsOf nodes lists (take place inputs) → IsTypedContextOf nodes list (get_or inputs place [])
    → AreTypedContextsOf nodes (lists ++ list ∷ []) (take (suc place) inputs)
typed_more nodes [] place lists list within all is = absurd (omega (arith, within))
typed_more nodes (bytes ∷ inputs) zero [] list within all is = (is, tt)
typed_more nodes (bytes ∷ inputs) zero (l ∷ lists) list within all is = absurd all
typed_more nodes (bytes ∷ inputs) (suc place) [] list within all is = absurd all
typed_more nodes (bytes ∷ inputs) (suc place) (l ∷ lists) list within all is =
    (all.0, typed_more nodes inputs place lists list (omega (arith, within)) all.1 is)

pub typed_next : (nodes : Nodes) (inputs : List (List ℕ)) (place : ℕ) (lists next : List (List Atom)) (list : List Atom) → place < length inputs
    → AreTypedContextsOf nodes lists (take place inputs) → IsTypedContextOf nodes list (get_or inputs place []) → next ≡ lists ++ list ∷ []
    → AreTypedContextsOf nodes next (take (place + 1) inputs)
typed_next nodes inputs place lists next list within all is grown =
    let one : suc place ≡ place + 1 = omega arith in
    subst (λ (n : ℕ). AreTypedContextsOf nodes next (take n inputs)) one
    (subst (λ (ls : List (List Atom)). AreTypedContextsOf nodes ls (take (suc place) inputs)) (sym grown) (typed_more nodes inputs place lists list within all is))

-- Those before a place are contexts, and the fact holds of the one there.
first_misread : (nodes : Nodes) (Misread : List ℕ → Type 0) (inputs : List (List ℕ)) (place : ℕ) (lists : List (List Atom)) → place < length inputs
    → AreTypedContextsOf nodes lists (take place inputs) → Misread (get_or inputs place []) → IsFirstMisread nodes Misread inputs place
first_misread nodes Misread [] place lists within all bad = absurd (omega (arith, within))
first_misread nodes Misread (bytes ∷ inputs) zero lists within all bad = bad
first_misread nodes Misread (bytes ∷ inputs) (suc place) [] within all bad = absurd all
first_misread nodes Misread (bytes ∷ inputs) (suc place) (l ∷ lists) within all bad =
    ((l, all.0), first_misread nodes Misread inputs place lists (omega (arith, within)) all.1 bad)

pub misread_there : (nodes : Nodes) (inputs : List (List ℕ)) (place : ℕ) (lists : List (List Atom)) (refusal : StepRefusal) → place < length inputs
    → AreTypedContextsOf nodes lists (take place inputs) → IsMisreadAt nodes place (get_or inputs place []) refusal → IsMisreadOf nodes inputs refusal
misread_there nodes inputs place lists (Table line code) within all told = absurd told
misread_there nodes inputs place lists (Write line code) within all told = absurd told
misread_there nodes inputs place lists (Fault context offset code) within all told =
    subst (IsFirstMisread nodes (λ bytes. IsFirstContextFault bytes offset (byte_code_of code)) inputs) (sym told.0)
    (first_misread nodes (λ bytes. IsFirstContextFault bytes offset (byte_code_of code)) inputs place lists within all told.1)
misread_there nodes inputs place lists (IllTyped context offset) within all told =
    subst (IsFirstMisread nodes (λ bytes. IsIllTypedAt nodes bytes offset) inputs) (sym told.0)
    (first_misread nodes (λ bytes. IsIllTypedAt nodes bytes offset) inputs place lists within all told.1)
misread_there nodes inputs place lists Memory within all told = tt
misread_there nodes inputs place lists (Room size) within all told = absurd told

-- ---- inputs in an array

-- The bytes at a place are those of the span there.
pub span_at : (spans : List Span) (place : ℕ) (other : Span) → place < length spans → get_or (inputs_of spans) place [] ≡ (get_or spans place other).bytes.now
span_at [] place other within = absurd (omega (arith, within))
span_at (s ∷ spans) zero other within = refl
span_at (s ∷ spans) (suc place) other within = span_at spans place other (omega (arith, within))

pub inputs_len : (spans : List Span) → length (inputs_of spans) ≡ length spans
inputs_len spans = length-map spans (λ span. span.bytes.now)

pub all_inputs : (nodes : Nodes) (lists : List (List Atom)) (spans : List Span) (count : ℕ) → count ≡ length spans → AreTypedContextsOf nodes lists (take count (inputs_of spans)) → AreTypedContextsOf nodes lists (inputs_of spans)
all_inputs nodes lists spans count is all =
    subst (AreTypedContextsOf nodes lists) (take_all count (inputs_of spans) (omega (arith, is, inputs_len spans))) all

-- A result that hands on a refusal reports what the refusal reported.
pub handed_on : {T : Type 0} (result : Result T StepRefusal) (refusal : StepRefusal) (P : StepRefusal → Type 0) → IsErrAnd result (λ other. other ≡ refusal) → P refusal → IfErr result P
handed_on (Ok made) refusal P same told = absurd same
handed_on (Err other) refusal P same told = subst P (sym same) told
