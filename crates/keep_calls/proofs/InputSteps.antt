-- Inputs that are read one after another.
use Rattle.std.proofs.Common.{◌≡◌, ℕ, zero, suc, ◌+◌, ◌<◌, List, [], ◌∷◌, ◌++◌, length, get_or, take, Result, Ok, Err, IfErr, sym, refl, subst, arith}
use Rattle.std.specs.Result.{IsErrAnd}
use Rattle.std.proofs.lemmas.List.{take_more, length-map}
use Rattle.context_model.specs.Atoms.{Atom}
use Rattle.context_model.specs.ByteCodes.{ByteCode}
use Rattle.context_model.specs.ContextFault.{IsContextOf, IsFirstContextFault}
use Rattle.wire_bytes.specs.Reading.{byte_code_of}
use Rattle.byte_calls.specs.declared.refusals.Refusal.{Refusal}
use Rattle.byte_calls.specs.declared.refusals.Refusal.TheVariants.{Fault, Memory, Room}
use Rattle.byte_calls.specs.declared.spans.Span.{Span}
use Rattle.byte_calls.specs.Spans.{inputs_of}
use Rattle.byte_calls.specs.Contexts.{AreContextsOf, IsFaultAt, IsRefusalAt, IsInputsRefusalOf}

-- The bytes of the input at a place.
pub input_at : (spans : List Span) (place : ℕ) (other : Span) → place < length spans → get_or (inputs_of spans) place [] ≡ (get_or spans place other).bytes.now
input_at [] place other l = absurd (omega arith)
input_at (span ∷ spans) zero other l = refl
input_at (span ∷ spans) (suc place) other l = input_at spans place other (omega arith)

pub inputs_long : (spans : List Span) → length (inputs_of spans) ≡ length spans
inputs_long spans = length-map spans (λ (span : Span). span.bytes.now)

contexts_append : (a : List (List Atom)) (xs : List (List ℕ)) (list : List Atom) (bytes : List ℕ) → AreContextsOf a xs → IsContextOf list bytes → AreContextsOf (a ++ list ∷ []) (xs ++ bytes ∷ [])
contexts_append [] [] list bytes of_a of_one = (of_one, tt)
contexts_append [] (x ∷ xs) list bytes of_a of_one = absurd of_a
contexts_append (y ∷ a) [] list bytes of_a of_one = absurd of_a
contexts_append (y ∷ a) (x ∷ xs) list bytes of_a of_one = (of_a.0, contexts_append a xs list bytes of_a.1 of_one)

-- One context more.
pub contexts_more : (spans : List Span) (lists : List (List Atom)) (place : ℕ) (other : Span) (list : List Atom) → place < length spans → AreContextsOf lists (take place (inputs_of spans))
    → IsContextOf list (get_or spans place other).bytes.now → AreContextsOf (lists ++ list ∷ []) (take (place + 1) (inputs_of spans))
contexts_more spans lists place other list l before one =
    subst (AreContextsOf (lists ++ list ∷ [])) (sym (take_more (inputs_of spans) place [] (omega (arith, l, inputs_long spans))))
    (contexts_append lists (take place (inputs_of spans)) list (get_or (inputs_of spans) place []) before (subst (IsContextOf list) (sym (input_at spans place other l)) one))

fault_there : (inputs : List (List ℕ)) (lists : List (List Atom)) (place offset : ℕ) (code : ByteCode) → place < length inputs → AreContextsOf lists (take place inputs)
    → IsFirstContextFault (get_or inputs place []) offset code → IsFaultAt inputs place offset code
fault_there [] lists place offset code l before fault = absurd (omega arith)
fault_there (bytes ∷ inputs) lists zero offset code l before fault = fault
fault_there (bytes ∷ inputs) [] (suc place) offset code l before fault = absurd before
fault_there (bytes ∷ inputs) (list ∷ lists) (suc place) offset code l before fault = ((list, before.0), fault_there inputs lists place offset code (omega arith) before.1 fault)

-- A refusal of the input at a place, where those before are contexts, is one of the inputs.
pub refusal_there : (spans : List Span) (lists : List (List Atom)) (place : ℕ) (other : Span) (refusal : Refusal) → place < length spans → AreContextsOf lists (take place (inputs_of spans))
    → IsRefusalAt place (get_or spans place other).bytes.now refusal → IsInputsRefusalOf (inputs_of spans) refusal
refusal_there spans lists place other (Fault context offset code) l before told =
    subst (λ n. IsFaultAt (inputs_of spans) n offset (byte_code_of code)) (sym told.0)
    (fault_there (inputs_of spans) lists place offset (byte_code_of code) (omega (arith, l, inputs_long spans)) before
    (subst (λ v. IsFirstContextFault v offset (byte_code_of code)) (sym (input_at spans place other l)) told.1))
refusal_there spans lists place other Memory l before told = tt
refusal_there spans lists place other (Room size) l before told = told

-- A result that hands on a refusal reports what the refusal reported.
pub handed_on : {T : Type 0} (result : Result T Refusal) (refusal : Refusal) (P : Refusal → Type 0) → IsErrAnd result (λ other. other ≡ refusal) → P refusal → IfErr result P
handed_on (Ok made) refusal P same told = absurd same
handed_on (Err other) refusal P same told = subst P (sym same) told
