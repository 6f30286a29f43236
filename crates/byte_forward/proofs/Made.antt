-- What is written where the lists that are made are known.
use Rattle.std.proofs.Common.{◌≡◌, ℕ, ◌+◌, ◌-◌, ◌^◌, ◌<◌, ◌≤◌, inl, inr, Bool, true, false, not, List, [], ◌∷◌, ◌++◌, length, drop, Result, Ok, Err, refl, sym, ap, ◌∙◌, subst, arith}
use Rattle.std.proofs.lemmas.Bool.{cases_lt}
use Rattle.context_model.specs.declared.Form.{Form}
use Rattle.context_model.specs.declared.Form.TheVariants.{One, Two}
use Rattle.context_model.specs.declared.TheConstants.{ATOM_MAX}
use Rattle.context_model.specs.Atoms.{Atom, AreAtoms}
use Rattle.context_model.specs.ByteCodes.{ByteCode}
use Rattle.context_model.specs.ContextFault.{IsContextOf}
use Rattle.context_model.specs.Framing.{bytes_in, bytes_of, form_of, frames, has_long, head_len, least_budget, size_of, AreWithin}
use Rattle.context_model.specs.GreedyMerge.{greedy_merge}
use Rattle.context_model.specs.Orders.{atom_cmp}
use Rattle.context_model.specs.Trimmed.{trimmed}
use Rattle.context_model.proofs.Following.{IsWellFormed-empty}
use Rattle.context_model.proofs.GreedyElements.{All-greedy}
use Rattle.context_model.proofs.Heads.{read_back}
use Rattle.context_model.proofs.MergedLaws.{merges_greedily, stays_within_limit}
use Rattle.context_model.proofs.OrderLaws.{atoms_total, atoms_anti}
use Rattle.context_model.proofs.TrimmedLaws.{trimmed-fits}
use Rattle.overflow_trim.proofs.Overs.{written_narrow}
use Rattle.wire_bytes.specs.Reading.{byte_code_of}
use Rattle.byte_forward.specs.declared.cutting.Cut.{Cut}
use Rattle.byte_forward.specs.declared.refusals.ByteRefusal.{ByteRefusal}
use Rattle.byte_forward.specs.declared.refusals.ByteRefusal.TheVariants.{Fault, Room}
use Rattle.byte_forward.specs.Calls.{IsTrimOf, IsCutMergeOf}
use Rattle.byte_forward.specs.Contexts.{IsFaultAt, IsMergeOf}
use Rattle.byte_forward.specs.Cutting.{IsUnderWay}
use Rattle.byte_forward.specs.Room.{HoldsBytes, IsTooShortFor, WritesBytes, WritesWhole}
use Rattle.byte_forward.proofs.Fitting.{merged_narrow, merged_no_more, narrow_within, trimmed_less, trimmed_much, context_len, size_le, all_atoms}
use Rattle.byte_forward.proofs.ToCome.{to_come_same}

-- What is said of each list that is made, and of each fault.
pub writes_weaker : (form : Form) (P Q : List Atom → Type 0) (F G : ℕ → ℕ → ByteCode → Type 0) (old new : List ℕ) (result : Result ℕ ByteRefusal)
    → ((list : List Atom) → P list → Q list) → ((context offset : ℕ) (code : ByteCode) → F context offset code → G context offset code)
    → WritesBytes form P F old new result → WritesBytes form Q G old new result
writes_weaker form P Q F G old new (Ok size) made fault w = (w.0, made w.0 w.1, w.2)
writes_weaker form P Q F G old new (Err (Fault context offset code)) made fault w = (fault context offset (byte_code_of code) w.0, w.1)
writes_weaker form P Q F G old new (Err (Room size)) made fault w = (w.0, made w.0 w.1, w.2)

-- A cut merge is one list.
pub cut_same : (cut : Cut) (x y : List Atom) → IsUnderWay [] cut x → IsUnderWay [] cut y → x ≡ y
cut_same cut x y f g = sym f.whole ∙ ap (λ rest. trimmed cut.form rest cut.budget) (to_come_same cut.merging f.rest g.rest f.come g.come) ∙ g.whole

pub not_long : (b : Bool) → not b ≡ true → b ≡ false
not_long true none = sym none
not_long false none = refl

-- No bytes are those of the empty context.
pub no_bytes : IsContextOf [] []
no_bytes = (tt, IsWellFormed-empty, refl)

-- A context in the form that is asked for, which fits the budget, is written as it is.
pub writes_own : (form : Form) (a : List Atom) (bytes : List ℕ) → IsContextOf a bytes → form_of bytes ≡ form → (budget : ℕ) → length bytes ≤ budget
    → (old new : List ℕ) (size : ℕ) → HoldsBytes bytes size old new → WritesBytes form (IsTrimOf form budget bytes) (IsFaultAt (bytes ∷ [])) old new (Ok size)
writes_own form a bytes is own budget fits old new size put =
    let whole : bytes ≡ bytes_of form a = is.2 ∙ ap (λ width. bytes_of width a) own in
    let l = ap length whole in
    let cut = trimmed-fits form a budget (omega arith) in
    let made : IsTrimOf form budget bytes a = (a, is, sym cut) in
    (a, made, subst (λ written. HoldsBytes written size old new) whole put)

-- ---- the merge of two contexts

module _ (a b : List Atom) (first second : List ℕ) (is_a : IsContextOf a first) (is_b : IsContextOf b second) where
  pub merged_atoms : AreAtoms (greedy_merge atom_cmp a b)
  merged_atoms = All-greedy atom_cmp atoms_total atoms_anti (λ atom. length atom ≤ ATOM_MAX) a b is_a.0 is_b.0

  pub merge_of_two : IsMergeOf (first ∷ second ∷ []) (greedy_merge atom_cmp a b)
  merge_of_two = (a ∷ b ∷ [], (is_a, (is_b, tt)), merges_greedily a b is_a.1 is_b.1)

  -- It has at most as many bytes as both together, and those of a head.
  pub cut_merge_fits : (form : Form) (budget : ℕ) → least_budget form ≤ budget → size_of form (trimmed form (greedy_merge atom_cmp a b) budget) ≤ length first + length second + 12
  cut_merge_fits form budget some =
      let less = trimmed_less form (greedy_merge atom_cmp a b) budget some in
      let size = size_le form (greedy_merge atom_cmp a b) merged_atoms in
      let count = merged_no_more One a b in
      let own = context_len a first is_a in
      let other = context_len b second is_b in
      omega arith

-- ---- the merge of two contexts in form one, whole

-- Bytes in form one are the frames of their context.
pub narrow_frames : (list : List Atom) (bytes : List ℕ) → IsContextOf list bytes → form_of bytes ≡ One → AreWithin One list × (bytes ≡ frames One list)
narrow_frames list bytes is one =
    let read = read_back bytes list is.0 is.2 in (
      subst (λ form. AreWithin form list) one read.1,
      subst (λ form. drop (head_len form) bytes ≡ frames form list) one read.2,
    )

module _ (a b : List Atom) (within : AreWithin One a × AreWithin One b) where
  merged_not_long : has_long (greedy_merge atom_cmp a b) ≡ false
  merged_not_long = merged_narrow a b (narrow_within a within.0) (narrow_within b within.1)

  -- The frames of the merge are its bytes.
  pub whole_bytes : bytes_of One (greedy_merge atom_cmp a b) ≡ frames One (greedy_merge atom_cmp a b)
  whole_bytes = ap (λ form. bytes_in form (greedy_merge atom_cmp a b)) (written_narrow One (greedy_merge atom_cmp a b) merged_not_long)

  -- Where the budget has place for both lists, nothing is cut.
  pub whole_cut : (budget : ℕ) → length (frames One a) + length (frames One b) ≤ budget → trimmed One (greedy_merge atom_cmp a b) budget ≡ greedy_merge atom_cmp a b
  whole_cut budget fits =
      let few = merged_no_more One a b in
      let size = ap length whole_bytes in
      trimmed-fits One (greedy_merge atom_cmp a b) budget (omega arith)

pub writes_whole : (form : Form) (a b : List Atom) (first second : List ℕ) → IsContextOf a first → IsContextOf b second
    → form ≡ One → form_of first ≡ One → form_of second ≡ One → (budget : ℕ) → length first + length second ≤ budget
    → (old new : List ℕ) (size : ℕ) → HoldsBytes (frames form (greedy_merge atom_cmp a b)) size old new
    → WritesBytes form (IsCutMergeOf form budget (first ∷ second ∷ [])) (IsFaultAt (first ∷ second ∷ [])) old new (Ok size)
writes_whole form a b first second is_a is_b one f g budget fits old new size put =
    let own = narrow_frames a first is_a f in
    let other = narrow_frames b second is_b g in
    let within : AreWithin One a × AreWithin One b = (own.0, other.0) in
    let l = ap length own.1 in
    let k = ap length other.1 in
    let merged = greedy_merge atom_cmp a b in
    let cut = whole_cut a b within budget (omega arith) in
    let bytes : HoldsBytes (bytes_of One merged) size old new =
    subst (λ bytes. HoldsBytes bytes size old new) (sym (whole_bytes a b within)) (subst (λ width. HoldsBytes (frames width merged) size old new) one put) in
    let P : Form → Type 0 = λ form. WritesBytes form (IsCutMergeOf form budget (first ∷ second ∷ [])) (IsFaultAt (first ∷ second ∷ [])) old new (Ok size) in
    let is : IsCutMergeOf One budget (first ∷ second ∷ []) merged = (merged, merge_of_two a b first second is_a is_b, sym cut) in
    let made : WritesBytes One (IsCutMergeOf One budget (first ∷ second ∷ [])) (IsFaultAt (first ∷ second ∷ [])) old new (Ok size) = (merged, is, bytes) in
    subst P (sym one) made

-- ---- the greatest budget

least : (form : Form) → least_budget form ≤ 2 ^ 64 - 1
least One = omega arith
least Two = omega arith

-- A merge that is cut to the greatest number is the merge: a merge with more bytes has no place in
-- a buffer, and what is cut has none either.
pub merge_whole : (form : Form) (inputs : List (List ℕ)) (F : ℕ → ℕ → ByteCode → Type 0) (old new : List ℕ) (result : Result ℕ ByteRefusal) → length old < 2 ^ 63
    → WritesBytes form (IsCutMergeOf form (2 ^ 64 - 1) inputs) F old new result → WritesWhole form (IsMergeOf inputs) F old new result
merge_whole form inputs F old new (Err (Fault context offset code)) short w = w
merge_whole form inputs F old new (Ok size) short w = elim (cases_lt (2 ^ 64 - 1) (size_of form w.1.0)) [
  | inr fits ↦ (w.1.0, w.1.1, subst (λ list. HoldsBytes (bytes_of form list) size old new) (w.1.2 ∙ trimmed-fits form w.1.0 (2 ^ 64 - 1) fits) w.2)
  | inl over ↦ (
      let of = w.1.1 in
      let much = trimmed_much form w.1.0 (2 ^ 64 - 1) (stays_within_limit of.0 w.1.0 (all_atoms of.0 inputs of.1) of.2) (least form) over in
      let cut = ap (size_of form) w.1.2 in
      absurd (omega (arith, w.2.0, w.2.1))
      )
]
merge_whole form inputs F old new (Err (Room size)) short w = elim (cases_lt (2 ^ 64 - 1) (size_of form w.1.0)) [
  | inr fits ↦ (
      let short : IsTooShortFor (bytes_of form w.1.0) size old new = subst (λ list. IsTooShortFor (bytes_of form list) size old new) (w.1.2 ∙ trimmed-fits form w.1.0 (2 ^ 64 - 1) fits) w.2 in
      (w.1.0, w.1.1, ((λ small. short.0), omega (arith, short.0, short.1), short.2))
      )
  | inl over ↦ (w.1.0, w.1.1, ((λ small. absurd (omega (arith, small))), omega (arith, over), w.2.2))
]
