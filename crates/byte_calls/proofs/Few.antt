-- The merge of no context and that of one.
use Rattle.std.proofs.Common.{◌≡◌, ℕ, zero, suc, List, [], ◌∷◌, Result, Ok, Err, refl, ap, ◌∙◌}
use Rattle.context_model.specs.declared.Form.{Form}
use Rattle.context_model.specs.Atoms.{Atom}
use Rattle.context_model.specs.ByteCodes.{ByteCode}
use Rattle.context_model.specs.Trimmed.{trimmed}
use Rattle.context_model.specs.ContextFault.{IsContextOf}
use Rattle.context_model.proofs.Following.{IsWellFormed-empty}
use Rattle.context_model.proofs.ContextFronts.{has_one_context}
use Rattle.context_model.proofs.MergedLaws.{merges_few}
use Rattle.wire_bytes.specs.Reading.{byte_code_of}
use Rattle.byte_forward.specs.Calls.{IsTrimOf, IsCutMergeOf}
use Rattle.byte_forward.specs.Contexts.{IsFaultAt}
use Rattle.byte_forward.specs.Room.{WritesBytes}
use Rattle.byte_forward.specs.declared.refusals.ByteRefusal.{ByteRefusal}
use Rattle.byte_forward.specs.declared.refusals.ByteRefusal.TheVariants.{Fault, Room}

-- What is written, by other facts that follow.
pub writes_weaker : (form : Form) (P Q : List Atom → Type 0) (F G : ℕ → ℕ → ByteCode → Type 0) (old new : List ℕ) (result : Result ℕ ByteRefusal)
    → ((list : List Atom) → P list → Q list) → ((context offset : ℕ) (code : ByteCode) → F context offset code → G context offset code)
    → WritesBytes form P F old new result → WritesBytes form Q G old new result
writes_weaker form P Q F G old new (Ok size) made fault w = (w.0, made w.0 w.1, w.2)
writes_weaker form P Q F G old new (Err (Fault context offset code)) made fault w = (fault context offset (byte_code_of code) w.0, w.1)
writes_weaker form P Q F G old new (Err (Room size)) made fault w = (w.0, made w.0 w.1, w.2)

-- No bytes are those of the empty context.
no_bytes : IsContextOf [] []
no_bytes = (tt, IsWellFormed-empty, refl)

-- What is left of a context is what is left of its merge.
pub one_cut : (form : Form) (budget : ℕ) (bytes : List ℕ) (cut : List Atom) → IsTrimOf form budget bytes cut → IsCutMergeOf form budget (bytes ∷ []) cut
one_cut form budget bytes cut of = (of.0, (of.0 ∷ [], (of.1, tt), merges_few.one of.0 of.1.1), of.2)

-- No bytes are those of the empty context, which is the merge of none.
pub none_cut : (form : Form) (budget : ℕ) (cut : List Atom) → IsTrimOf form budget [] cut → IsCutMergeOf form budget [] cut
none_cut form budget cut of = ([], ([], tt, merges_few.none), of.2 ∙ ap (λ list. trimmed form list budget) ((has_one_context []).list of.0 [] of.1 no_bytes))

-- They have no fault.
pub none_wrong : (place offset : ℕ) (code : ByteCode) → IsFaultAt ([] ∷ []) place offset code → IsFaultAt [] place offset code
none_wrong zero offset code fault = absurd ((has_one_context []).either [] offset code no_bytes fault)
none_wrong (suc place) offset code fault = fault.1
