-- Prefixes of a list that is cut to a budget, and where the cut is.
use Rattle.std.proofs.Common.{◌≡◌, ◌⊎◌, inl, inr, ℕ, ◌+◌, ◌-◌, ◌<◌, ◌≤◌, Bool, true, false, ◌||◌, List, [], ◌∷◌, ◌++◌, length, length-append, append_assoc, take, drop, nat_lt, if◌then◌else◌, refl, sym, ◌∙◌, ap, subst, arith}
use Rattle.std.proofs.lemmas.Bool.{cases_lt}
use Rattle.std.proofs.lemmas.Bool.Decides.{nat_tests}
use Rattle.std.proofs.lemmas.List.{take_at, take-take, take-append-drop, append-nil, append_cancel_left}
use Rattle.context_model.specs.declared.Form.{Form}
use Rattle.context_model.specs.declared.Form.TheVariants.{One, Two}
use Rattle.context_model.specs.declared.TheConstants.{ATOM_MAX, LENGTH_MAX}
use Rattle.context_model.specs.Atoms.{Atom, AreAtoms}
use Rattle.context_model.specs.Framing.{base_128, frame, frames, has_long, head_len, written_in, size_of, least_budget}
use Rattle.context_model.specs.Trimmed.{cut_at, kept_of, trimmed, IsLongestFit}
use Rattle.context_model.proofs.FramingLaws.{frame_lens, frames_len-append, long-append, size_by_frames, size_of-cut, size_of-front, size_of-grows, size_of-take-le, written-marker}
use Rattle.overflow_trim.proofs.Overs.{head_len-le}
use Rattle.byte_forward.specs.declared.cutting.Cut.{Cut}
use Rattle.byte_forward.specs.declared.merging.Merging.{Merging}
use Rattle.byte_forward.specs.Merging.{IsToCome}
use Rattle.byte_forward.specs.Cutting.{IsUnderWay}
use Rattle.context_model.proofs.TrimmedLaws.{keeps_longest, trimmed-fits, trimmed-cut, IsLongestFit-unique}

-- What is cut to a budget begins with each prefix that leaves room for a marker, or that fits and
-- is all of it.
pub keeps_front : (form : Form) (front rest : List Atom) (budget : ℕ) → least_budget form ≤ budget → size_of form front ≤ budget → (rest ≡ []) ⊎ (size_of form front < budget)
    → (more : List Atom) × (trimmed form (front ++ rest) budget ≡ front ++ more)
keeps_front form front rest budget some fits (inl none) =
    let whole : size_of form (front ++ rest) ≡ size_of form front = ap (size_of form) (ap (λ list. front ++ list) none ∙ append-nil front) in
    (rest, trimmed-fits form (front ++ rest) budget (omega arith))
keeps_front form front rest budget some fits (inr room) = elim (cases_lt budget (size_of form (front ++ rest))) [
  | inr all ↦ (rest, trimmed-fits form (front ++ rest) budget all)
  | inl over ↦ (
      let whole = front ++ rest in
      let i = length front in
      let fit = keeps_longest form whole budget some over in
      let keep = kept_of form whole budget in
      let own : take i whole ≡ front = take_at front rest i refl in
      let size : size_of form (cut_at i whole) ≡ size_of form front + 1 = size_of-cut form i whole ∙ ap (λ list. size_of form list + 1) own in
      let far : i ≤ keep = fit.longest i (let l = length-append front rest in omega arith) (omega arith) in
      let more = drop i (take keep whole) in
      let split : take keep whole ≡ front ++ more = sym (take-append-drop i (take keep whole)) ∙ ap (λ list. list ++ more) (take-take i keep whole far ∙ own) in
      (more ++ [] ∷ [], trimmed-cut form whole budget over ∙ ap (λ list. list ++ [] ∷ []) split ∙ append_assoc front more ([] ∷ []))
      )
]

-- Where one atom more fills or passes the budget, and the list doesn't fit, a marker follows.
pub cuts_here : (form : Form) (front : List Atom) (atom : Atom) (rest : List Atom) (budget : ℕ) → least_budget form ≤ budget → size_of form front < budget
    → budget ≤ size_of form (front ++ atom ∷ []) → budget < size_of form (front ++ atom ∷ rest) → trimmed form (front ++ atom ∷ rest) budget ≡ front ++ [] ∷ []
cuts_here form front atom rest budget some room full over =
    let whole = front ++ atom ∷ rest in
    let i = length front in
    let own : take i whole ≡ front = take_at front (atom ∷ rest) i refl in
    let next : take (i + 1) whole ≡ front ++ atom ∷ [] =
    ap (take (i + 1)) (sym (append_assoc front (atom ∷ []) rest)) ∙ take_at (front ++ atom ∷ []) rest (i + 1) (length-append front (atom ∷ [])) in
    let own_size : size_of form (take i whole) ≡ size_of form front = ap (size_of form) own in
    let next_size : size_of form (take (i + 1) whole) ≡ size_of form (front ++ atom ∷ []) = ap (size_of form) next in
    let l = length-append front (atom ∷ rest) in
    let longest : IsLongestFit form whole budget i = record {
      within = omega arith;
      fits = let e = size_of-cut form i whole in omega arith;
      longest = λ n upto fit. (
          let e = size_of-cut form n whole in
          elim (cases_lt i n) [ inl more ↦ (let m = size_of-take-le form (i + 1) n whole (omega arith) in absurd (omega arith)) | inr less ↦ less ]
          );
    } in
    let same = IsLongestFit-unique form whole budget (kept_of form whole budget) i (keeps_longest form whole budget some over) longest in
    trimmed-cut form whole budget over ∙ ap (λ n. cut_at n whole) same ∙ ap (λ list. list ++ [] ∷ []) own

-- ---- one atom more

long-next : (front : List Atom) (atom : Atom) → has_long (front ++ atom ∷ []) ≡ (has_long front || nat_lt LENGTH_MAX (length atom))
long-next front atom = long-append front (atom ∷ []) ∙ ap (λ b. has_long front || b) (or-false (nat_lt LENGTH_MAX (length atom)))
  where
    or-false : (a : Bool) → (a || false) ≡ a
    or-false true = refl
    or-false false = refl

-- The first that is too long for form one brings form two.
pub written_long : (form : Form) (front : List Atom) (atom : Atom) → LENGTH_MAX < length atom → written_in form (front ++ atom ∷ []) ≡ Two
written_long One front atom long =
    let one : nat_lt LENGTH_MAX (length atom) ≡ true = grind (arith, nat_tests, long) in
    ap (λ b. if b then Two else One) (long-next front atom ∙ ap (λ b. has_long front || b) one ∙ or-true (has_long front))
  where
    or-true : (a : Bool) → (a || true) ≡ true
    or-true true = refl
    or-true false = refl
written_long Two front atom long = refl

-- Any other leaves the form.
pub written_short : (form : Form) (front : List Atom) (atom : Atom) → length atom ≤ LENGTH_MAX → written_in form (front ++ atom ∷ []) ≡ written_in form front
written_short One front atom short =
    let none : nat_lt LENGTH_MAX (length atom) ≡ false = grind (arith, nat_tests, short) in
    ap (λ b. if b then Two else One) (long-next front atom ∙ ap (λ b. has_long front || b) none ∙ or-false (has_long front))
  where
    or-false : (a : Bool) → (a || false) ≡ a
    or-false true = refl
    or-false false = refl
written_short Two front atom short = refl

-- The frames of one atom more.
pub frames_len-push : (width : Form) (front : List Atom) (atom : Atom) → length (frames width (front ++ atom ∷ [])) ≡ length (frames width front) + length (frame width atom)
frames_len-push width front atom =
    frames_len-append width front (atom ∷ []) ∙ ap (λ bytes. length (frames width front) + length bytes) (append-nil (frame width atom))

-- ---- lists of atoms in two parts

pub atoms_first : (a b : List Atom) → AreAtoms (a ++ b) → AreAtoms a
atoms_first [] b short = tt
atoms_first (x ∷ a) b short = (short.0, atoms_first a b short.1)

pub atoms_second : (a b : List Atom) → AreAtoms (a ++ b) → AreAtoms b
atoms_second [] b short = short
atoms_second (x ∷ a) b short = atoms_second a b short.1

pub atoms_both : (a b : List Atom) → AreAtoms a → AreAtoms b → AreAtoms (a ++ b)
atoms_both [] b f g = g
atoms_both (x ∷ a) b f g = (f.0, atoms_both a b f.1 g)

-- ---- what one atom more costs

module _ (form width : Form) (front : List Atom) (atom : Atom) (short : AreAtoms (front ++ atom ∷ [])) where
  own_len : length (frame One atom) ≡ length (frame width atom)
  own_len = by width
    where
      by : (width : Form) → length (frame One atom) ≡ length (frame width atom)
      by One = refl
      by Two = frame_lens atom (atoms_second front (atom ∷ []) short).0

  pub cost_short : length atom ≤ LENGTH_MAX → size_of form (front ++ atom ∷ []) ≡ size_of form front + length (frame width atom)
  cost_short few =
      let more = size_by_frames form (front ++ atom ∷ []) short in
      let own = size_by_frames form front (atoms_first front (atom ∷ []) short) in
      let head = ap head_len (written_short form front atom few) in
      let count = frames_len-push One front atom in
      let same = own_len in
      omega arith

  pub cost_long : LENGTH_MAX < length atom → size_of form (front ++ atom ∷ []) + head_len (written_in form front) ≡ size_of form front + length (frame width atom) + 12
  cost_long many =
      let more = size_by_frames form (front ++ atom ∷ []) short in
      let own = size_by_frames form front (atoms_first front (atom ∷ []) short) in
      let head = ap head_len (written_long form front atom many) in
      let count = frames_len-push One front atom in
      let same = own_len in
      omega arith

-- The form that is written in and the cost, as a cut merge reckons them.
pub is_cost : (form width : Form) (front rest : List Atom) (atom : Atom) (before after : Form) (bytes : List ℕ) (cost : ℕ)
    → AreAtoms (front ++ atom ∷ rest) → before ≡ written_in form front → bytes ≡ frame width atom
    → ((LENGTH_MAX < length atom) × (after ≡ Two) × (cost ≡ length bytes + (12 - head_len before))) ⊎ ((length atom ≤ LENGTH_MAX) × (after ≡ before) × (cost ≡ length bytes))
    → (after ≡ written_in form (front ++ atom ∷ [])) × (size_of form (front ++ atom ∷ []) ≡ size_of form front + cost)
is_cost form width front rest atom before after bytes cost short was framed (inl long) =
    let own = atoms_first (front ++ atom ∷ []) rest (subst AreAtoms (sym (append_assoc front (atom ∷ []) rest)) short) in
    let more = cost_long form width front atom own long.0 in
    let head = ap head_len was in
    let few = head_len-le before in
    let count = ap length framed in
    (long.1 ∙ sym (written_long form front atom long.0), omega (arith, long.2))
is_cost form width front rest atom before after bytes cost short was framed (inr few) =
    let own = atoms_first (front ++ atom ∷ []) rest (subst AreAtoms (sym (append_assoc front (atom ∷ []) rest)) short) in
    let more = cost_short form width front atom own few.0 in
    let count = ap length framed in
    (few.1 ∙ was ∙ sym (written_short form front atom few.0), omega (arith, few.2))

-- A longer list has no fewer bytes, and with one atom more it has more.
pub size_first : (form : Form) (a b : List Atom) → size_of form a ≤ size_of form (a ++ b)
size_first form a b = subst (λ front. size_of form front ≤ size_of form (a ++ b)) (take_at a b (length a) refl) (size_of-front form (length a) (a ++ b))

pub size_more : (form : Form) (a : List Atom) (x : Atom) (b : List Atom) → size_of form a + 1 ≤ size_of form (a ++ x ∷ b)
size_more form a x b =
    let l = length-append a (x ∷ b) in
    let grows = size_of-grows form (a ++ x ∷ b) (length a) (omega arith) in
    let front = size_of-front form (length a + 1) (a ++ x ∷ b) in
    let own = ap (size_of form) (take_at a (x ∷ b) (length a) refl) in
    omega arith

-- A list is longer than a budget that is passed with one atom more, or filled where others follow.
pub passes : (form : Form) (front : List Atom) (atom : Atom) (rest : List Atom) (budget : ℕ)
    → (budget < size_of form (front ++ atom ∷ [])) ⊎ ((budget ≤ size_of form (front ++ atom ∷ [])) × (rest ≡ [] → ⊥)) → budget < size_of form (front ++ atom ∷ rest)
passes form front atom rest budget (inl over) =
    let first = size_first form (front ++ atom ∷ []) rest in
    let e = ap (size_of form) (append_assoc front (atom ∷ []) rest) in
    omega arith
passes form front atom [] budget (inr full) = absurd (full.1 refl)
passes form front atom (next ∷ rest) budget (inr full) =
    let more = size_more form (front ++ atom ∷ []) next rest in
    let e = ap (size_of form) (append_assoc front (atom ∷ []) (next ∷ rest)) in
    omega (arith, full.0)

-- A byte is kept for a marker where others follow. With it one atom more fits the budget, or the list doesn't.
pub fits_kept : (front_size size left budget cost kept : ℕ) (rest : List Atom) → ((rest ≡ []) × (kept ≡ 0)) ⊎ ((rest ≡ [] → ⊥) × (kept ≡ 1))
    → front_size + left ≡ budget → size ≡ front_size + cost → cost + kept ≤ left → (size + (left - cost) ≡ budget) × ((rest ≡ []) ⊎ (0 < left - cost))
fits_kept front_size size left budget cost kept rest (inl last) under is fits = (let k = last.1 in omega arith, inl last.0)
fits_kept front_size size left budget cost kept rest (inr more) under is fits = (let k = more.1 in omega arith, inr (let k = more.1 in omega arith))

pub passes_kept : (form : Form) (front : List Atom) (atom : Atom) (rest : List Atom) (left budget cost kept : ℕ) → ((rest ≡ []) × (kept ≡ 0)) ⊎ ((rest ≡ [] → ⊥) × (kept ≡ 1))
    → size_of form front + left ≡ budget → size_of form (front ++ atom ∷ []) ≡ size_of form front + cost → left < cost + kept
    → (budget ≤ size_of form (front ++ atom ∷ [])) × (budget < size_of form (front ++ atom ∷ rest))
passes_kept form front atom rest left budget cost kept (inl last) under is over =
    let k = last.1 in
    let full : budget < size_of form (front ++ atom ∷ []) = omega arith in
    (omega arith, passes form front atom rest budget (inl full))
passes_kept form front atom rest left budget cost kept (inr more) under is over =
    let k = more.1 in
    let full : budget ≤ size_of form (front ++ atom ∷ []) = omega arith in
    (full, passes form front atom rest budget (inr (full, more.0)))

-- A marker has one byte.
pub marker_len : length (frame One []) ≡ 1
unfolding base_128
marker_len = refl

-- ---- steps

-- The next frame of the merge fits.
pub goes_on : (past list : List Atom) (cut : Cut) (merging : Merging) (written : Form) (left : ℕ) (f : IsUnderWay past cut list) (atom : Atom) (rest : List Atom)
    → f.rest ≡ atom ∷ rest → IsToCome merging rest → written ≡ written_in cut.form (past ++ atom ∷ []) → size_of cut.form (past ++ atom ∷ []) + left ≡ cut.budget → (rest ≡ []) ⊎ (0 < left)
    → (more : List Atom) × (list ≡ atom ∷ more) × IsUnderWay (past ++ atom ∷ []) (record cut { merging = merging; written = written; left = left }) more
goes_on past list cut merging written left f atom rest next come is size room =
    let split : past ++ f.rest ≡ (past ++ atom ∷ []) ++ rest = ap (λ l. past ++ l) next ∙ sym (append_assoc past (atom ∷ []) rest) in
    let below : (rest ≡ []) ⊎ (size_of cut.form (past ++ atom ∷ []) < cut.budget) = elim room [ inl none ↦ inl none | inr some ↦ inr (omega arith) ] in
    let front = keeps_front cut.form (past ++ atom ∷ []) rest cut.budget f.some (omega arith) below in
    let same : past ++ list ≡ past ++ atom ∷ front.0 = sym f.whole ∙ ap (λ l. trimmed cut.form l cut.budget) split ∙ front.1 ∙ append_assoc past (atom ∷ []) front.0 in (
      front.0,
      append_cancel_left past list (atom ∷ front.0) same,
      record { rest = rest; come = come; atoms = subst AreAtoms split f.atoms; some = f.some; written = is; size = size; room = room; whole = front.1 },
    )

-- It doesn't, or it does and a marker after it wouldn't: a marker takes its place.
pub stops_here : (past list : List Atom) (cut : Cut) (merging : Merging) (left : ℕ) (f : IsUnderWay past cut list) (atom : Atom) (rest : List Atom)
    → f.rest ≡ atom ∷ rest → IsToCome merging [] → left + 1 ≡ cut.left → cut.budget ≤ size_of cut.form (past ++ atom ∷ []) → cut.budget < size_of cut.form (past ++ atom ∷ rest)
    → (list ≡ [] ∷ []) × IsUnderWay (past ++ [] ∷ []) (record cut { merging = merging; left = left }) []
stops_here past list cut merging left f atom rest next come one full over =
    let under = f.size in
    let here = cuts_here cut.form past atom rest cut.budget f.some (omega arith) full over in
    let same : past ++ list ≡ past ++ [] ∷ [] = sym f.whole ∙ ap (λ l. trimmed cut.form (past ++ l) cut.budget) next ∙ here in
    let front = past ++ [] ∷ [] in
    let short : AreAtoms front = atoms_both past ([] ∷ []) (atoms_first past f.rest f.atoms) (omega arith, tt) in
    let size : size_of cut.form front + left ≡ cut.budget = omega (arith, cost_short cut.form One past [] short (omega arith), marker_len) in
    let all : trimmed cut.form (front ++ []) cut.budget ≡ front ++ [] = trimmed-fits cut.form (front ++ []) cut.budget (let e = ap (size_of cut.form) (append-nil front) in omega arith) in (
      append_cancel_left past list ([] ∷ []) same,
      record { rest = []; come = come; atoms = atoms_both front [] short tt; some = f.some; written = f.written ∙ sym (written-marker cut.form past); size = size; room = inl refl; whole = all },
    )

-- Nothing is left of the merge, so nothing is left of what is cut.
pub ends : (past list : List Atom) (cut : Cut) (f : IsUnderWay past cut list) → f.rest ≡ [] → list ≡ []
ends past list cut f none =
    let under = f.size in
    let whole : past ++ f.rest ≡ past = ap (λ l. past ++ l) none ∙ append-nil past in
    let fits : size_of cut.form (past ++ f.rest) ≤ cut.budget = (let e = ap (size_of cut.form) whole in omega arith) in
    append_cancel_left past list [] (sym f.whole ∙ trimmed-fits cut.form (past ++ f.rest) cut.budget fits ∙ whole ∙ sym (append-nil past))
