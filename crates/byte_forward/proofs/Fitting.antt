-- How many bytes a merge has, and which form it is written in.
use Rattle.std.proofs.Common.{◌≡◌, ℕ, zero, suc, ◌+◌, ◌<◌, ◌≤◌, inl, inr, Bool, true, false, ◌||◌, List, [], ◌∷◌, ◌++◌, length, length-append, get_or, take, nat_lt, sum_by, refl, sym, ◌∙◌, ap, subst, arith}
use Rattle.std.proofs.lemmas.Bool.{cases_lt, ltb-false}
use Rattle.std.proofs.lemmas.Bool.Decides.{nat_tests}
use Rattle.std.proofs.lemmas.List.Sums.{sum_by-cons}
use Rattle.std.specs.List.{AllByRecursion}
use Rattle.std.specs.declared.cmp.Ordering.{Ordering}
use Rattle.std.specs.declared.cmp.Ordering.TheVariants.{Less, Equal, Greater}
use Rattle.context_model.specs.declared.Form.{Form}
use Rattle.context_model.specs.declared.Form.TheVariants.{One, Two}
use Rattle.context_model.specs.declared.TheConstants.{ATOM_MAX, LENGTH_MAX}
use Rattle.context_model.specs.Atoms.{Atom, AreAtoms}
use Rattle.context_model.specs.ContextFault.{IsContextOf}
use Rattle.context_model.specs.Framing.{base_128, frame, frames, form_of, has_long, head, head_len, written_in, size_of, least_budget, AreWithin, bytes_in}
use Rattle.context_model.specs.GreedyMerge.{greedy_merge}
use Rattle.context_model.specs.Merged.{IsMerged, merge_of}
use Rattle.context_model.specs.Orders.{atom_cmp}
use Rattle.context_model.specs.Trimmed.{cut_at, kept_of, trimmed}
use Rattle.context_model.specs.WellFormed.{IsWellFormed}
use Rattle.context_model.proofs.FramingLaws.{AreAtoms-take, frames-more, frames_lens, length-base_128, size_of-cut, length-head, long-front, long-marker, size_by_frames}
use Rattle.context_model.proofs.GreedyElements.{All-greedy}
use Rattle.context_model.proofs.MergedLaws.{has_one_merge, merges_one_by_one, stays_within_limit}
use Rattle.context_model.proofs.OrderLaws.{atoms_total, atoms_anti}
use Rattle.context_model.proofs.Rising.{greedy-right_empty, greedy-less, greedy-equal, greedy-greater}
use Rattle.context_model.proofs.TrimmedLaws.{keeps_longest, trimmed-fits, trimmed-cut}
use Rattle.context_model.proofs.TwoLists.{two_lists}
use Rattle.overflow_trim.proofs.Overs.{head_len-le}
use Rattle.byte_forward.specs.Contexts.{AreContextsOf}
use Rattle.byte_forward.specs.Laws.{MergesFit}

-- ---- the frames of a merge

module _ (width : Form) where
  abbrev IsNoMore : List Atom → List Atom → Type 0
  IsNoMore a b = length (frames width (greedy_merge atom_cmp a b)) ≤ length (frames width a) + length (frames width b)

  no_more_step : (x y : Atom) (a b : List Atom) → IsNoMore a (y ∷ b) → IsNoMore a b → IsNoMore (x ∷ a) b → IsNoMore (x ∷ a) (y ∷ b)
  no_more_step x y a b less both more = by (atom_cmp x y) refl
    where
      by : (r : Ordering) → atom_cmp x y ≡ r → IsNoMore (x ∷ a) (y ∷ b)
      by Less h =
          let l = length-append (frame width x) (frames width (greedy_merge atom_cmp a (y ∷ b))) in
          let k = length-append (frame width x) (frames width a) in
          let e = ap (λ list. length (frames width list)) (greedy-less atom_cmp x y a b h) in
          omega arith
      by Equal h =
          let l = length-append (frame width x) (frames width (greedy_merge atom_cmp a b)) in
          let k = length-append (frame width x) (frames width a) in
          let j = length-append (frame width y) (frames width b) in
          let e = ap (λ list. length (frames width list)) (greedy-equal atom_cmp x y a b h) in
          omega arith
      by Greater h =
          let l = length-append (frame width y) (frames width (greedy_merge atom_cmp (x ∷ a) b)) in
          let j = length-append (frame width y) (frames width b) in
          let e = ap (λ list. length (frames width list)) (greedy-greater atom_cmp x y a b h) in
          omega arith

  -- A merge has no more bytes of frames than both lists together.
  pub merged_no_more : (a b : List Atom) → IsNoMore a b
  merged_no_more = two_lists IsNoMore (λ b. omega arith) (λ a. (let e = ap (λ list. length (frames width list)) (greedy-right_empty atom_cmp a) in omega arith)) no_more_step

-- ---- atoms that are too long for form one

pub within_narrow : (list : List Atom) → has_long list ≡ false → AreWithin One list
within_narrow [] none = tt
within_narrow (atom ∷ list) none = by (nat_lt LENGTH_MAX (length atom)) refl none (within_narrow list)
  where
    by : (own : Bool) → nat_lt LENGTH_MAX (length atom) ≡ own → (own || has_long list) ≡ false → (has_long list ≡ false → AreWithin One list) → AreWithin One (atom ∷ list)
    by true e none rest = absurd (cc none)
    by false e none rest = (ltb-false LENGTH_MAX (length atom) e, rest none)

pub narrow_within : (list : List Atom) → AreWithin One list → has_long list ≡ false
narrow_within [] within = refl
narrow_within (atom ∷ list) within =
    let few : length atom ≤ LENGTH_MAX = within.0 in
    let short : nat_lt LENGTH_MAX (length atom) ≡ false = grind (arith, nat_tests, few) in
    ap (λ long. long || has_long list) short ∙ narrow_within list within.1

-- A merge of lists without such an atom has none.
pub merged_narrow : (a b : List Atom) → has_long a ≡ false → has_long b ≡ false → has_long (greedy_merge atom_cmp a b) ≡ false
merged_narrow a b f g = narrow_within (greedy_merge atom_cmp a b) (All-greedy atom_cmp atoms_total atoms_anti (λ atom. length atom ≤ LENGTH_MAX) a b (within_narrow a f) (within_narrow b g))

-- Nor has what is left of such a list within a budget.
pub trimmed_narrow : (form : Form) (list : List Atom) (budget : ℕ) → has_long list ≡ false → has_long (trimmed form list budget) ≡ false
trimmed_narrow form list budget none = elim (cases_lt budget (size_of form list)) [
  | inl over ↦ ap has_long (trimmed-cut form list budget over) ∙ (let keep = kept_of form list budget in long-marker (take keep list) ∙ long-front keep list none)
  | inr fits ↦ ap has_long (trimmed-fits form list budget fits) ∙ none
]

-- ---- sizes

-- What is left within a budget is within it, and has no more bytes than the list.
pub trimmed_within : (form : Form) (list : List Atom) (budget : ℕ) → least_budget form ≤ budget → size_of form (trimmed form list budget) ≤ budget
trimmed_within form list budget some = elim (cases_lt budget (size_of form list)) [
  | inl over ↦ (let fit = keeps_longest form list budget some over in let fits = fit.fits in let e = ap (size_of form) (trimmed-cut form list budget over) in omega arith)
  | inr fits ↦ (let e = ap (size_of form) (trimmed-fits form list budget fits) in omega arith)
]

pub trimmed_less : (form : Form) (list : List Atom) (budget : ℕ) → least_budget form ≤ budget → size_of form (trimmed form list budget) ≤ size_of form list
trimmed_less form list budget some = elim (cases_lt budget (size_of form list)) [
  | inl over ↦ (let fits = trimmed_within form list budget some in omega arith)
  | inr fits ↦ (let e = ap (size_of form) (trimmed-fits form list budget fits) in omega arith)
]

-- What is cut leaves no more of the budget than one atom more would have taken.
pub trimmed_much : (form : Form) (list : List Atom) (budget : ℕ) → AreAtoms list → least_budget form ≤ budget → budget < size_of form list
    → budget ≤ size_of form (trimmed form list budget) + (ATOM_MAX + 16)
trimmed_much form list budget short some over =
    let keep = kept_of form list budget in
    let fit = keeps_longest form list budget some over in
    let within = fit.within in
    let more : budget < size_of form (cut_at (keep + 1) list) = elim (cases_lt budget (size_of form (cut_at (keep + 1) list))) [
      | inl less ↦ less
      | inr fits ↦ (let far = fit.longest (keep + 1) (omega arith) fits in absurd (omega arith))
    ] in
    let atom = get_or list keep [] in
    let own = size_of-cut form keep list in
    let next = size_of-cut form (keep + 1) list in
    let front = size_by_frames form (take keep list) (AreAtoms-take keep list short) in
    let longer = size_by_frames form (take (keep + 1) list) (AreAtoms-take (keep + 1) list short) in
    let head = head_len-le (written_in form (take (keep + 1) list)) in
    let added = ap length (frames-more One list keep within) ∙ length-append (frames One (take keep list)) (frame One atom) in
    let atom_len = length-append (base_128 (length atom)) atom in
    let code = (length-base_128 (length atom)).1 in
    let limit : length atom ≤ ATOM_MAX = atom_within list keep short in
    let cut = ap (size_of form) (trimmed-cut form list budget over) in
    omega arith
  where
    atom_within : (list : List Atom) (i : ℕ) → AreAtoms list → length (get_or list i []) ≤ ATOM_MAX
    atom_within [] i short = omega arith
    atom_within (x ∷ list) zero short = short.0
    atom_within (x ∷ list) (suc i) short = atom_within list i short.1

-- A context has no more bytes of frames than its bytes are.
pub context_len : (list : List Atom) (bytes : List ℕ) → IsContextOf list bytes → length (frames One list) ≤ length bytes
context_len list bytes is = by (written_in (form_of bytes) list) is.2
  where
    by : (width : Form) → bytes ≡ bytes_in width list → length (frames One list) ≤ length bytes
    by One e = let l = ap length e in omega arith
    by Two e =
        let l = ap length e in
        let k = length-append (head Two (length (frames Two list))) (frames Two list) in
        let same = frames_lens list is.0 in
        omega arith

-- A list has at most its frames and a head.
pub size_le : (form : Form) (list : List Atom) → AreAtoms list → size_of form list ≤ length (frames One list) + 12
size_le form list short =
    let own = size_by_frames form list short in
    let few = head_len-le (written_in form list) in
    omega arith

-- ---- any number of inputs

abbrev total : List (List ℕ) → ℕ
total inputs = sum_by (λ bytes. length bytes) inputs

all_well_formed : (lists : List (List Atom)) (inputs : List (List ℕ)) → AreContextsOf lists inputs → AllByRecursion IsWellFormed lists
all_well_formed [] [] are = tt
all_well_formed [] (bytes ∷ inputs) are = absurd are
all_well_formed (list ∷ lists) [] are = absurd are
all_well_formed (list ∷ lists) (bytes ∷ inputs) are = (are.0.1, all_well_formed lists inputs are.1)

pub all_atoms : (lists : List (List Atom)) (inputs : List (List ℕ)) → AreContextsOf lists inputs → AllByRecursion AreAtoms lists
all_atoms [] [] are = tt
all_atoms [] (bytes ∷ inputs) are = absurd are
all_atoms (list ∷ lists) [] are = absurd are
all_atoms (list ∷ lists) (bytes ∷ inputs) are = (are.0.0, all_atoms lists inputs are.1)

merge_of-len : (lists : List (List Atom)) (inputs : List (List ℕ)) → AreContextsOf lists inputs → length (frames One (merge_of lists)) ≤ total inputs
merge_of-len [] [] are = omega arith
merge_of-len [] (bytes ∷ inputs) are = absurd are
merge_of-len (list ∷ lists) [] are = absurd are
merge_of-len (list ∷ lists) (bytes ∷ inputs) are =
    let own = context_len list bytes are.0 in
    let rest = merge_of-len lists inputs are.1 in
    let both = merged_no_more One list (merge_of lists) in
    let sum = sum_by-cons (λ (b : List ℕ). length b) bytes inputs in
    omega arith

pub merges_fit : MergesFit
merges_fit form inputs merged budget some is =
    let lists = is.0 in
    let same : merged ≡ merge_of lists = has_one_merge lists merged (merge_of lists) is.2 (merges_one_by_one lists (all_well_formed lists inputs is.1)) in
    let count = ap (λ list. length (frames One list)) same in
    let few = merge_of-len lists inputs is.1 in
    let size = size_le form merged (stays_within_limit lists merged (all_atoms lists inputs is.1) is.2) in
    let less = trimmed_less form merged budget some in
    omega arith
