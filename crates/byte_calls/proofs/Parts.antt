-- Inputs that are read in two parts.
use Rattle.std.proofs.Common.{◌≡◌, ℕ, ◌+◌, ◌<◌, ◌≤◌, zero, suc, List, [], ◌∷◌, ◌++◌, length, slice_index_or, Result, Ok, Err, IfOk, IfErr, refl, sym, ap, ◌∙◌, subst, arith}
use Rattle.std.specs.Result.{IsErrAnd}
use Rattle.std.proofs.lemmas.List.{map-append, length-map}
use Rattle.std.proofs.lemmas.Result.{IfOk-weaker}
use Rattle.context_model.specs.Atoms.{Atom}
use Rattle.context_model.specs.ByteCodes.{ByteCode}
use Rattle.context_model.specs.Orders.{atom_cmp}
use Rattle.context_model.specs.GreedyMerge.{greedy_merge}
use Rattle.context_model.specs.Merged.{IsMerged, MergesFew, MergesInGroups}
use Rattle.context_model.specs.ContextFault.{IsContextOf}
use Rattle.wire_bytes.specs.Reading.{byte_code_of}
use Rattle.byte_calls.specs.declared.refusals.Refusal.{Refusal}
use Rattle.byte_calls.specs.declared.refusals.Refusal.TheVariants.{Fault, Memory, Room}
use Rattle.byte_calls.specs.declared.spans.Span.{Span}
use Rattle.byte_calls.specs.Spans.{inputs_of}
use Rattle.byte_calls.specs.Contexts.{AreContextsOf, IsMergeOf, IsFaultAt, IsRefusalFrom}

-- The contexts of both parts are those of all inputs.
contexts_append : (a : List (List Atom)) (xs : List (List ℕ)) (b : List (List Atom)) (ys : List (List ℕ)) → AreContextsOf a xs → AreContextsOf b ys → AreContextsOf (a ++ b) (xs ++ ys)
contexts_append [] [] b ys of_a of_b = of_b
contexts_append [] (bytes ∷ xs) b ys of_a of_b = absurd of_a
contexts_append (list ∷ a) [] b ys of_a of_b = absurd of_a
contexts_append (list ∷ a) (bytes ∷ xs) b ys of_a of_b = (of_a.0, contexts_append a xs b ys of_a.1 of_b)

-- A fault in the first part stays where it is.
fault_left : (xs ys : List (List ℕ)) (place offset : ℕ) (code : ByteCode) → IsFaultAt xs place offset code → IsFaultAt (xs ++ ys) place offset code
fault_left [] ys place offset code fault = absurd fault
fault_left (bytes ∷ xs) ys zero offset code fault = fault
fault_left (bytes ∷ xs) ys (suc place) offset code fault = (fault.0, fault_left xs ys place offset code fault.1)

-- A fault in the second part comes after all of the first, which are contexts.
fault_right : (a : List (List Atom)) (xs ys : List (List ℕ)) (place at offset : ℕ) (code : ByteCode) → at ≡ place + length xs → AreContextsOf a xs → IsFaultAt ys place offset code → IsFaultAt (xs ++ ys) at offset code
fault_right [] [] ys place at offset code behind of_a fault =
    let same : place ≡ at = omega arith in
    subst (λ n. IsFaultAt ys n offset code) same fault
fault_right [] (bytes ∷ xs) ys place at offset code behind of_a fault = absurd of_a
fault_right (list ∷ a) [] ys place at offset code behind of_a fault = absurd of_a
fault_right (list ∷ a) (bytes ∷ xs) ys place zero offset code behind of_a fault = absurd (omega arith)
fault_right (list ∷ a) (bytes ∷ xs) ys place (suc at) offset code behind of_a fault = ((list, of_a.0), fault_right a xs ys place at offset code (omega arith) of_a.1 fault)

pub refusal_left : (first : ℕ) (xs ys : List (List ℕ)) (refusal : Refusal) → IsRefusalFrom first xs refusal → IsRefusalFrom first (xs ++ ys) refusal
refusal_left first xs ys (Fault context offset code) told = (told.0, told.1, fault_left xs ys told.0 offset (byte_code_of code) told.2)
refusal_left first xs ys Memory told = told
refusal_left first xs ys (Room size) told = told

pub refusal_right : (first second : ℕ) (xs ys : List (List ℕ)) (a : List Atom) (refusal : Refusal) → second ≡ first + length xs → IsMergeOf xs a → IsRefusalFrom second ys refusal → IsRefusalFrom first (xs ++ ys) refusal
refusal_right first second xs ys a (Fault context offset code) behind of_a told =
    (told.0 + length xs, omega (arith, told.1), fault_right of_a.0 xs ys told.0 (told.0 + length xs) offset (byte_code_of code) refl of_a.1 told.2)
refusal_right first second xs ys a Memory behind of_a told = told
refusal_right first second xs ys a (Room size) behind of_a told = told

-- The greedy merge of the merges of both parts is that of all.
pub merge_parts : MergesInGroups → (xs ys : List (List ℕ)) (a b merged : List Atom) → IsMergeOf xs a → IsMergeOf ys b → merged ≡ greedy_merge atom_cmp a b → IsMergeOf (xs ++ ys) merged
merge_parts groups xs ys a b merged of_a of_b is =
    (of_a.0 ++ of_b.0, contexts_append of_a.0 xs of_b.0 ys of_a.1 of_b.1, subst (IsMerged (of_a.0 ++ of_b.0)) (sym is) (groups of_a.0 of_b.0 a b of_a.2 of_b.2))

-- A result that hands on a refusal reports what the refusal reported.
pub handed_on : {T : Type 0} (result : Result T Refusal) (refusal : Refusal) (P : Refusal → Type 0) → IsErrAnd result (λ other. other ≡ refusal) → P refusal → IfErr result P
handed_on (Ok made) refusal P same told = absurd same
handed_on (Err other) refusal P same told = subst P (sym same) told

pub inputs_parts : (spans left right : List Span) → spans ≡ left ++ right → inputs_of spans ≡ inputs_of left ++ inputs_of right
inputs_parts spans left right cut = ap inputs_of cut ∙ map-append (λ span. span.bytes.now) left right

pub inputs_len : (spans : List Span) → length (inputs_of spans) ≡ length spans
inputs_len spans = length-map spans (λ span. span.bytes.now)

pub one_merged : {E : Type 0} → MergesFew → (spans : List Span) (other : Span) (result : Result (List Atom) E) → 1 ≤ length spans → length spans < 2
    → IfOk result (λ list. IsContextOf list (slice_index_or spans 0 other).bytes.now) → IfOk result (IsMergeOf (inputs_of spans))
one_merged few [] other result some less found = absurd (omega arith)
one_merged few (span ∷ []) other result some less found =
    IfOk-weaker result (λ list. IsContextOf list span.bytes.now) (IsMergeOf (inputs_of (span ∷ []))) (λ list is. (list ∷ [], (is, tt), few.one list is.1)) found
one_merged few (span ∷ next ∷ spans) other result some less found = absurd (omega arith)
