-- Lists that don't fit, and prefixes that do.
use Rattle.std.proofs.Common.{◌≡◌, inl, inr, Bool, true, false, ◌||◌, ℕ, ◌+◌, ◌-◌, ◌<◌, ◌≤◌, List, [], ◌∷◌, length, length-append, take, slice_get, nat_lt, if◌then◌else◌, Some, refl, sym, ◌∙◌, ap, subst, arith}
use Rattle.std.proofs.lemmas.Option.{slice_get_within}
use Rattle.std.proofs.lemmas.Bool.{cases_lt}
use Rattle.std.proofs.lemmas.Bool.Decides.{nat_tests}
use Rattle.context_model.specs.declared.Form.{Form}
use Rattle.context_model.specs.declared.Form.TheVariants.{One, Two}
use Rattle.context_model.specs.declared.TheConstants.{LENGTH_MAX}
use Rattle.context_model.specs.Atoms.{Atom, AreAtoms}
use Rattle.context_model.specs.Framing.{base_128, frame, frames, has_long, head_len, written_in, size_of, least_budget}
use Rattle.context_model.specs.Trimmed.{kept_of}
use Rattle.context_model.proofs.FramingLaws.{AreAtoms-take, frames_len-next, written-next, size_by_frames}
use Rattle.context_model.proofs.TrimmedLaws.{kept_of-before, kept_of-fits}

-- Where fewer atoms stay the list doesn't fit.
pub over : (form : Form) (list : List Atom) (budget keep : ℕ) → keep ≡ kept_of form list budget → keep < length list → budget < size_of form list
over form list budget keep is less = elim (cases_lt budget (size_of form list)) [
  | inl more ↦ more
  | inr fits ↦ (let all = kept_of-fits form list budget fits in absurd (omega arith))
]

-- ---- a prefix: how many bytes come before its frames, and how many these have

pub head_len-le : (form : Form) → head_len form ≤ 12
head_len-le One = omega arith
head_len-le Two = omega arith

-- An atom that is too long for form one has more bytes than that.
pub narrow : (list : List Atom) → length (frames One list) ≤ LENGTH_MAX → has_long list ≡ false
narrow [] light = refl
narrow (atom ∷ list) light =
    let own = length-append (base_128 (length atom)) atom in
    let all = length-append (frame One atom) (frames One list) in
    let few : length atom ≤ LENGTH_MAX = omega arith in
    let short : nat_lt LENGTH_MAX (length atom) ≡ false = grind (arith, nat_tests, few) in
    ap (λ long. long || has_long list) short ∙ narrow list (omega arith)

-- A prefix with no such atom is written in the form that is asked for.
pub written_narrow : (form : Form) (list : List Atom) → has_long list ≡ false → written_in form list ≡ form
written_narrow One list none = ap (λ long. if long then Two else One) none
written_narrow Two list none = refl

-- The head of the form that is taken is the one of the two heads.
head_len-if : (b : Bool) (width : Form) → (if b then head_len Two else head_len width) ≡ head_len (if b then Two else width)
head_len-if true width = refl
head_len-if false width = refl

-- The bytes are those of the head and of the frames.
pub size_front : (form : Form) (list : List Atom) (i head count : ℕ) → AreAtoms list → head ≡ head_len (written_in form (take i list)) → count ≡ length (frames One (take i list))
    → head + count ≡ size_of form (take i list)
size_front form list i head count short is long = omega (arith, is, long, size_by_frames form (take i list) (AreAtoms-take i list short))

-- One atom more.
module _ (form : Form) (list : List Atom) (i : ℕ) (atom : Atom) (head head' count count' : ℕ) (short : AreAtoms list) (there : slice_get list i ≡ Some atom)
    (is : head ≡ head_len (written_in form (take i list))) (long : count ≡ length (frames One (take i list)))
    (next : head' ≡ (if nat_lt LENGTH_MAX (length atom) then head_len Two else head)) (more : count' ≡ count + length (frame One atom))
  where
    pub head_more : head' ≡ head_len (written_in form (take (i + 1) list))
    head_more =
        next ∙ ap (λ n. if nat_lt LENGTH_MAX (length atom) then head_len Two else n) is ∙ head_len-if (nat_lt LENGTH_MAX (length atom)) (written_in form (take i list))
        ∙ ap head_len (sym (written-next form list i atom there))

    pub count_more : count' ≡ length (frames One (take (i + 1) list))
    count_more = omega (arith, more, long, frames_len-next One list i atom there)

    -- Where the budget is passed with it, as many atoms stay as are before it, or one fewer where they fill the budget.
    module _ (budget : ℕ) (some : least_budget form ≤ budget) (fits : head + count ≤ budget) (beyond : budget < head' + count') where
      before : kept_of form list budget ≡ (if nat_lt (head + count) budget then i else i - 1)
      before =
          let within = slice_get_within list i atom there in
          let own : head + count ≡ size_of form (take i list) = size_front form list i head count short is long in
          let all : head' + count' ≡ size_of form (take (i + 1) list) = size_front form list (i + 1) head' count' short head_more count_more in
          subst (λ n. kept_of form list budget ≡ (if nat_lt n budget then i else i - 1)) (sym own) (kept_of-before form list budget i some within (omega arith) (omega arith))

      pub room_left : head + count < budget → i ≡ kept_of form list budget
      room_left less = grind (arith, nat_tests, before)

      pub no_room : budget ≤ head + count → i - 1 ≡ kept_of form list budget
      no_room full = grind (arith, nat_tests, before)
