-- The laws of framing: frames, bytes and size of prefixes, and of lists put together.
use Rattle.std.proofs.Common.{◌≡◌, ℕ, zero, suc, ◌+◌, ◌<◌, ◌≤◌, Bool, true, false, ◌||◌, if◌then◌else◌, [], List, ◌∷◌, ◌++◌, length, take, drop, get_or, slice_get, Some, refl, sym, ◌∙◌, ap, subst, length-append, nat_lt, arith}
use Rattle.std.specs.List.{list_any}
use Rattle.std.proofs.lemmas.List.{take_more, take-append-drop, take-take, append-nil}
use Rattle.std.proofs.lemmas.Grind.{flat_map-append}
use Rattle.std.proofs.lemmas.Option.{get_or_from_slice_get, slice_get_within}
use Rattle.std.proofs.lemmas.Bool.{ltb-false}
use Rattle.std.proofs.lemmas.Bool.Decides.{nat_tests}
use Rattle.context_model.specs.declared.TheConstants.{ATOM_MAX, LENGTH_MAX}
use Rattle.context_model.specs.declared.Form.{Form}
use Rattle.context_model.specs.declared.Form.TheVariants.{One, Two}
use Rattle.context_model.specs.Atoms.{Atom, AreAtoms}
use Rattle.context_model.specs.Varints.{unsigned_form, unsigned_tail, unsigned_varint}
use Rattle.context_model.specs.Framing.{base_128, length_code, frame, frames, head, head_len, has_long, written_in, size_of}
use Rattle.context_model.specs.Trimmed.{cut_at}
use Rattle.context_model.proofs.VarintForms.{length-unsigned_form}

-- ---- frames, in a form

module _ (form : Form) where
  -- The frames of two lists one after the other are those of the first and then those of the
  -- second.
  pub frames-append : (a b : List Atom) → frames form (a ++ b) ≡ frames form a ++ frames form b
  frames-append a b = flat_map-append (frame form) a b

  -- One atom more.
  pub frames-more : (list : List Atom) (i : ℕ) → i < length list → frames form (take (i + 1) list) ≡ frames form (take i list) ++ frame form (get_or list i [])
  frames-more list i within =
      ap (frames form) (take_more list i [] within) ∙ frames-append (take i list) (get_or list i [] ∷ [])
      ∙ ap (λ bs. frames form (take i list) ++ bs) (append-nil (frame form (get_or list i [])))

  -- The same, for the atom that a look-up gave.
  pub frames-next : (list : List Atom) (i : ℕ) (atom : Atom) → slice_get list i ≡ Some atom → frames form (take (i + 1) list) ≡ frames form (take i list) ++ frame form atom
  frames-next list i atom there =
      frames-more list i (slice_get_within list i atom there) ∙ ap (λ x. frames form (take i list) ++ frame form x) (get_or_from_slice_get list i atom [] there)

  pub frames_len-append : (a b : List Atom) → length (frames form (a ++ b)) ≡ length (frames form a) + length (frames form b)
  frames_len-append a b = ap length (frames-append a b) ∙ length-append (frames form a) (frames form b)

  pub frames_len-next : (list : List Atom) (i : ℕ) (atom : Atom) → slice_get list i ≡ Some atom
      → length (frames form (take (i + 1) list)) ≡ length (frames form (take i list)) + length (frame form atom)
  frames_len-next list i atom there = ap length (frames-next list i atom there) ∙ length-append (frames form (take i list)) (frame form atom)

  -- A prefix has no more bytes than the whole.
  pub frames_len-front : (n : ℕ) (list : List Atom) → length (frames form (take n list)) ≤ length (frames form list)
  frames_len-front n list =
      let e : length (frames form list) ≡ length (frames form (take n list)) + length (frames form (drop n list)) =
      ap (λ l. length (frames form l)) (sym (take-append-drop n list)) ∙ frames_len-append (take n list) (drop n list) in
      omega arith

-- ---- lengths

-- A number in base 128 has one to three bytes.
pub length-base_128 : (n : ℕ) → (1 ≤ length (base_128 n)) × (length (base_128 n) ≤ 3)
unfolding base_128
length-base_128 n = (grind (arith, nat_tests), grind (arith, nat_tests))

-- A length has at least one byte.
pub length_code-some : (form : Form) (n : ℕ) → 1 ≤ length (length_code form n)
unfolding unsigned_varint unsigned_form
length_code-some One n = (length-base_128 n).0
length_code-some Two n = omega arith

-- The two codes of a number below 2 ^ 21 have equally many bytes.
tail_alike : (n : ℕ) → n < 2097152 → length (base_128 n) ≡ unsigned_tail n + 1
unfolding base_128 unsigned_tail
tail_alike n below = grind (arith, nat_tests)

pub codes_alike : (n : ℕ) → n < 2097152 → length (base_128 n) ≡ length (unsigned_varint n)
unfolding unsigned_varint
codes_alike n below = tail_alike n below ∙ sym (length-unsigned_form (unsigned_tail n) n)

pub frame_lens : (atom : Atom) → length atom ≤ ATOM_MAX → length (frame One atom) ≡ length (frame Two atom)
frame_lens atom short =
    length-append (base_128 (length atom)) atom ∙ ap (λ n. n + length atom) (codes_alike (length atom) (omega arith)) ∙ sym (length-append (unsigned_varint (length atom)) atom)

-- So a list has equally many bytes of frames in either form.
pub frames_lens : (list : List Atom) → AreAtoms list → length (frames One list) ≡ length (frames Two list)
frames_lens [] short = refl
frames_lens (atom ∷ list) short =
    let own = frame_lens atom short.0 in
    let more = frames_lens list short.1 in
    let a = length-append (frame One atom) (frames One list) in
    let b = length-append (frame Two atom) (frames Two list) in
    omega arith

-- The head has as many bytes as is said.
pub length-head : (form : Form) (n : ℕ) → length (head form n) ≡ head_len form
length-head One n = refl
length-head Two n = refl

-- ---- the bytes of a list

-- The bytes of a list are its head and its frames.
pub size_is : (form : Form) (list : List Atom) → size_of form list ≡ head_len (written_in form list) + length (frames (written_in form list) list)
size_is form list =
    let width = written_in form list in
    let count = length (frames width list) in
    length-append (head width count) (frames width list) ∙ ap (λ n. n + count) (length-head width count)

-- A list without a long atom has no prefix with one, a marker is none, and one atom more decides
-- for itself.
any_append : {A : Type 0} (test : A → Bool) (a b : List A) → list_any test (a ++ b) ≡ (list_any test a || list_any test b)
any_append test [] b = refl
any_append test (x ∷ a) b = ap (λ t. test x || t) (any_append test a b) ∙ sym (or_assoc (test x) (list_any test a) (list_any test b))
  where
    or_assoc : (p q r : Bool) → ((p || q) || r) ≡ (p || (q || r))
    or_assoc true q r = refl
    or_assoc false q r = refl

pub long-append : (a b : List Atom) → has_long (a ++ b) ≡ (has_long a || has_long b)
long-append a b = any_append _ a b

pub long-front : (n : ℕ) (list : List Atom) → has_long list ≡ false → has_long (take n list) ≡ false
long-front n list none = by (has_long (take n list)) (has_long (drop n list)) (sym (long-append (take n list) (drop n list)) ∙ ap has_long (take-append-drop n list) ∙ none)
  where
    by : (a b : Bool) → (a || b) ≡ false → a ≡ false
    by true b e = e
    by false b e = refl

or-false : (a : Bool) → (a || false) ≡ a
or-false true = refl
or-false false = refl

pub long-marker : (list : List Atom) → has_long (list ++ [] ∷ []) ≡ has_long list
long-marker list = long-append list ([] ∷ []) ∙ or-false (has_long list)

-- A marker doesn't change the form.
pub written-marker : (form : Form) (list : List Atom) → written_in form (list ++ [] ∷ []) ≡ written_in form list
written-marker One list = ap (λ long. if long then Two else One) (long-marker list)
written-marker Two list = refl

-- A marker has one byte.
marker_len : (form : Form) → length (frames form ([] ∷ [])) ≡ 1
unfolding base_128 unsigned_varint unsigned_form unsigned_tail
marker_len One = refl
marker_len Two = refl

-- A prefix with its marker has one byte more than the prefix.
pub size_of-cut : (form : Form) (n : ℕ) (list : List Atom) → size_of form (cut_at n list) ≡ size_of form (take n list) + 1
size_of-cut form n list =
    let front = take n list in
    let width = written_in form front in
    let whole : size_of form (cut_at n list) ≡ head_len width + length (frames width (cut_at n list)) =
    size_is form (cut_at n list) ∙ ap (λ w. head_len w + length (frames w (cut_at n list))) (written-marker form front) in
    let parts = frames_len-append width front ([] ∷ []) in
    let one = marker_len width in
    let own = size_is form front in
    omega arith

-- ---- prefixes, which have no long atom where the list has none

-- A list without a long atom has equally many bytes of frames in either form.
narrow_lens : (list : List Atom) → has_long list ≡ false → length (frames One list) ≡ length (frames Two list)
narrow_lens [] none = refl
narrow_lens (atom ∷ list) none = by (nat_lt LENGTH_MAX (length atom)) (has_long list) refl none (λ more. narrow_lens list more)
  where
    by : (own more : Bool) → nat_lt LENGTH_MAX (length atom) ≡ own → (own || more) ≡ false → (more ≡ false → length (frames One list) ≡ length (frames Two list))
        → length (frames One (atom ∷ list)) ≡ length (frames Two (atom ∷ list))
    by true more e none later = absurd (cc none)
    by false more e none later =
        let short : length atom ≤ LENGTH_MAX = ltb-false LENGTH_MAX (length atom) e in
        let own = frame_lens atom (omega arith) in
        let rest = later none in
        let a = length-append (frame One atom) (frames One list) in
        let b = length-append (frame Two atom) (frames Two list) in
        omega arith

size_narrow : (list : List Atom) → has_long list ≡ false → size_of One list ≡ length (frames One list)
size_narrow list none = let e = size_is One list ∙ ap (λ long. head_len (if long then Two else One) + length (frames (if long then Two else One) list)) none in omega arith

size_wide : (list : List Atom) → has_long list ≡ true → size_of One list ≡ 12 + length (frames Two list)
size_wide list some = size_is One list ∙ ap (λ long. head_len (if long then Two else One) + length (frames (if long then Two else One) list)) some

-- Where a prefix has k bytes of frames less than a list in each form, it is k bytes smaller.
sizes : (form : Form) (front list : List Atom) (k : ℕ) → (has_long list ≡ false → has_long front ≡ false) → ((width : Form) → length (frames width front) + k ≤ length (frames width list))
    → size_of form front + k ≤ size_of form list
sizes Two front list k narrow less =
    let a = size_is Two front in
    let b = size_is Two list in
    let l = less Two in
    omega arith
sizes One front list k narrow less = by (has_long front) (has_long list) refl refl
  where
    by : (own whole : Bool) → has_long front ≡ own → has_long list ≡ whole → size_of One front + k ≤ size_of One list
    by true false e f = let clash : true ≡ false = sym e ∙ narrow f in absurd (cc clash)
    by true true e f = let a = size_wide front e in let b = size_wide list f in let l = less Two in omega arith
    by false true e f = let a = size_narrow front e in let b = size_wide list f in let l = less Two in let same = narrow_lens front e in omega arith
    by false false e f = let a = size_narrow front e in let b = size_narrow list f in let l = less One in omega arith

-- A prefix has no more bytes than the whole.
pub size_of-front : (form : Form) (n : ℕ) (list : List Atom) → size_of form (take n list) ≤ size_of form list
size_of-front form n list = let l = sizes form (take n list) list 0 (long-front n list) (λ width. (let f = frames_len-front width n list in omega arith)) in omega arith

-- A shorter prefix has no more bytes than a longer one.
pub size_of-take-le : (form : Form) (m n : ℕ) (list : List Atom) → m ≤ n → size_of form (take m list) ≤ size_of form (take n list)
size_of-take-le form m n list below = subst (λ front. size_of form front ≤ size_of form (take n list)) (take-take m n list below) (size_of-front form m (take n list))

-- One atom more is at least one byte more.
pub size_of-grows : (form : Form) (list : List Atom) (i : ℕ) → i < length list → size_of form (take i list) + 1 ≤ size_of form (take (i + 1) list)
size_of-grows form list i within =
    sizes form (take i list) (take (i + 1) list) 1 (λ none. subst (λ front. has_long front ≡ false) (take-take i (i + 1) list (omega arith)) (long-front i (take (i + 1) list) none))
    (λ width. (
    let atom = get_or list i [] in
    let more = ap length (frames-more width list i within) ∙ length-append (frames width (take i list)) (frame width atom) in
    let long = length-append (length_code width (length atom)) atom in
    let some = length_code-some width (length atom) in
    omega arith
    ))

-- ---- sizes of atoms' lists by the frames of form one

pub AreAtoms-take : (n : ℕ) (list : List Atom) → AreAtoms list → AreAtoms (take n list)
AreAtoms-take zero list short = tt
AreAtoms-take (suc n) [] short = tt
AreAtoms-take (suc n) (atom ∷ list) short = (short.0, AreAtoms-take n list short.1)

-- A list has its head and as many bytes of frames as in form one.
pub size_by_frames : (form : Form) (list : List Atom) → AreAtoms list → size_of form list ≡ head_len (written_in form list) + length (frames One list)
size_by_frames form list short = size_is form list ∙ by (written_in form list)
  where
    by : (width : Form) → head_len width + length (frames width list) ≡ head_len width + length (frames One list)
    by One = refl
    by Two = let same = frames_lens list short in omega arith

-- One atom more: its frame, and a head where it is the first long one.
pub written-next : (form : Form) (list : List Atom) (i : ℕ) (atom : Atom) → slice_get list i ≡ Some atom
    → written_in form (take (i + 1) list) ≡ (if nat_lt LENGTH_MAX (length atom) then Two else written_in form (take i list))
written-next form list i atom there =
    ap (written_in form) (take_more list i [] (slice_get_within list i atom there) ∙ ap (λ x. take i list ++ x ∷ []) (get_or_from_slice_get list i atom [] there)) ∙ added form (take i list)
  where
    long : (front : List Atom) → has_long (front ++ atom ∷ []) ≡ (has_long front || nat_lt LENGTH_MAX (length atom))
    long front = long-append front (atom ∷ []) ∙ ap (λ b. has_long front || b) (or-false (nat_lt LENGTH_MAX (length atom)))

    by : (a b : Bool) → (if (a || b) then Two else One) ≡ (if b then Two else (if a then Two else One))
    by true true = refl
    by true false = refl
    by false true = refl
    by false false = refl

    added : (form : Form) (front : List Atom) → written_in form (front ++ atom ∷ []) ≡ (if nat_lt LENGTH_MAX (length atom) then Two else written_in form front)
    added One front = ap (λ b. if b then Two else One) (long front) ∙ by (has_long front) (nat_lt LENGTH_MAX (length atom))
    added Two front = elim (nat_lt LENGTH_MAX (length atom)) as (λ b. Two ≡ (if b then Two else Two)) [ true ↦ refl | false ↦ refl ]
