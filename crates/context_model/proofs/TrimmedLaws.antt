-- The laws of trimming: a list that doesn't fit keeps its longest prefix, and trimming twice is
-- trimming to the lesser budget.
use Rattle.std.proofs.Common.{◌≡◌, ℕ, ◌+◌, ◌-◌, ◌<◌, ◌≤◌, zero, suc, Bool, true, false, [], List, ◌∷◌, ◌++◌, ◌⊎◌, inl, inr, length, take, min, nat_le, nat_lt, if◌then◌else◌, refl, sym, ◌∙◌, ap, subst, length-append, arith, leb-true, le-leb}
use Rattle.std.proofs.lemmas.List.{length-take-le, take-append-le, take-take, take_all}
use Rattle.std.proofs.lemmas.Bool.{cases_lt}
use Rattle.std.proofs.lemmas.Bool.Decides.{nat_tests}
use Rattle.context_model.specs.Atoms.{Atom}
use Rattle.context_model.specs.declared.Form.{Form}
use Rattle.context_model.specs.declared.Form.TheVariants.{One, Two}
use Rattle.context_model.specs.Framing.{head_len, size_of, least_budget}
use Rattle.context_model.specs.Trimmed.{cut_at, greatest, kept_of, trimmed, IsLongestFit, KeepsLongest, CutsOnce}
use Rattle.context_model.proofs.FramingLaws.{size_of-cut, size_of-front, size_of-take-le, size_of-grows}

-- The greatest number that passes is one of those asked.
pub greatest-le : (test : ℕ → Bool) (n : ℕ) → greatest test n ≤ n
greatest-le test zero = omega arith
greatest-le test (suc n) =
    elim (test (suc n)) as (λ b. (if b then suc n else greatest test n) ≤ suc n) [ true ↦ omega arith | false ↦ let h = greatest-le test n in omega arith ]

-- It passes, or it is 0.
pub greatest-passes : (test : ℕ → Bool) (n : ℕ) → (test (greatest test n) ≡ true) ⊎ (greatest test n ≡ 0)
greatest-passes test zero = inr refl
greatest-passes test (suc n) = by (greatest-passes test n) (test (suc n)) refl
  where
    by : (test (greatest test n) ≡ true) ⊎ (greatest test n ≡ 0) → (b : Bool) → test (suc n) ≡ b
        → (test (if b then suc n else greatest test n) ≡ true) ⊎ ((if b then suc n else greatest test n) ≡ 0)
    by below true e = inl e
    by below false e = below

-- Each number up to n that passes is at most the greatest.
pub le-greatest : (test : ℕ → Bool) (n m : ℕ) → m ≤ n → test m ≡ true → m ≤ greatest test n
le-greatest test zero m within passes = within
le-greatest test (suc n) m within passes = by (λ below. le-greatest test n m below passes) (test (suc n)) refl
  where
    by : (m ≤ n → m ≤ greatest test n) → (b : Bool) → test (suc n) ≡ b → m ≤ (if b then suc n else greatest test n)
    by later true e = within
    by later false e = elim (cases_lt n m) [
      | inl above ↦ (let same : m ≡ suc n = omega arith in absurd (cc (ap test same, e, passes)))
      | inr below ↦ later below
    ]

-- The test that kept_of asks.
abbrev fits_in : Form → List Atom → ℕ → ℕ → Bool
fits_in form list budget n = nat_le (size_of form (cut_at n list)) budget

-- No atoms have the head's bytes.
size_of-nothing : (form : Form) → size_of form [] ≡ head_len form
size_of-nothing One = refl
size_of-nothing Two = refl

-- What kept_of and trimmed answer, by whether the list fits.
pub kept_of-fits : (form : Form) (list : List Atom) (budget : ℕ) → size_of form list ≤ budget → kept_of form list budget ≡ length list
unfolding kept_of
kept_of-fits form list budget fits = grind (arith, nat_tests)

pub kept_of-cut : (form : Form) (list : List Atom) (budget : ℕ) → budget < size_of form list → kept_of form list budget ≡ greatest (fits_in form list budget) (length list)
unfolding kept_of
kept_of-cut form list budget over = grind (arith, nat_tests)

pub trimmed-fits : (form : Form) (list : List Atom) (budget : ℕ) → size_of form list ≤ budget → trimmed form list budget ≡ list
unfolding trimmed
trimmed-fits form list budget fits = grind (arith, nat_tests)

pub trimmed-cut : (form : Form) (list : List Atom) (budget : ℕ) → budget < size_of form list → trimmed form list budget ≡ cut_at (kept_of form list budget) list
unfolding trimmed
trimmed-cut form list budget over = grind (arith, nat_tests)

-- The longest prefix that fits is one.
pub IsLongestFit-unique : (form : Form) (list : List Atom) (budget i j : ℕ) → IsLongestFit form list budget i → IsLongestFit form list budget j → i ≡ j
IsLongestFit-unique form list budget i j a b =
    let up : i ≤ j = b.longest i (let w = a.within in omega arith) a.fits in
    let down : j ≤ i = a.longest j (let w = b.within in omega arith) b.fits in
    omega arith

-- A list that doesn't fit keeps its longest prefix that fits with a marker after it.
pub keeps_longest : KeepsLongest
keeps_longest form list budget some over =
    let test = fits_in form list budget in
    let n = length list in
    let keep = greatest test n in
    let upto : keep ≤ n = greatest-le test n in
    let fits : size_of form (cut_at keep list) ≤ budget = elim (greatest-passes test n) [
      | inl passes ↦ leb-true (size_of form (cut_at keep list)) budget passes
      | inr none ↦ subst (λ k. size_of form (cut_at k list) ≤ budget) (sym none) (let one = size_of-cut form 0 list in let none = size_of-nothing form in omega arith)
    ] in
    let whole : size_of form (take n list) ≡ size_of form list = ap (size_of form) (take_all n list (omega arith)) in
    let within : keep < n = elim (cases_lt keep n) [
      | inl less ↦ less
      | inr all ↦ (let same : keep ≡ n = omega arith in
          let cut : size_of form (cut_at n list) ≤ budget = subst (λ k. size_of form (cut_at k list) ≤ budget) same fits in
          let more = size_of-cut form n list in absurd (omega arith))
    ] in
    subst (λ k. IsLongestFit form list budget k) (sym (kept_of-cut form list budget over)) (record {
      within = within;
      fits = fits;
      longest = λ m upto_all fit. le-greatest test n m upto_all (le-leb (size_of form (cut_at m list)) budget fit);
    })

-- The prefix with its marker, cut again at most as far, is the list cut there.
pub cut_at-cut_at : (m k : ℕ) (list : List Atom) → m ≤ k → k ≤ length list → cut_at m (cut_at k list) ≡ cut_at m list
cut_at-cut_at m k list below within =
    let front : take m (take k list ++ [] ∷ []) ≡ take m list =
    take-append-le m (take k list) ([] ∷ []) (let l = length-take-le k list within in omega arith) ∙ take-take m k list below in
    ap (λ xs. xs ++ [] ∷ []) front

length-cut_at : (k : ℕ) (list : List Atom) → k ≤ length list → length (cut_at k list) ≡ k + 1
length-cut_at k list within = length-append (take k list) ([] ∷ []) ∙ ap (λ n. n + 1) (length-take-le k list within)

-- To cut the list that was cut at k once more is to cut the list, for a budget below the first.
cuts_again : (form : Form) (list : List Atom) (b k : ℕ) → least_budget form ≤ b → b < size_of form list → k < length list → ((n : ℕ) → n ≤ length list → size_of form (cut_at n list) ≤ b → n ≤ k)
    → trimmed form (cut_at k list) b ≡ cut_at (kept_of form list b) list
cuts_again form list b k some over within bound =
    let cut = cut_at k list in
    let at : ℕ = kept_of form list b in
    let fit : IsLongestFit form list b at = keeps_longest form list b some over in
    let at_k : at ≤ k = bound at (let w = fit.within in omega arith) fit.fits in
    elim (cases_lt b (size_of form cut)) [
      | inl more ↦ (
          let again : IsLongestFit form cut b (kept_of form cut b) = keeps_longest form cut b some more in
          let len : length cut ≡ k + 1 = length-cut_at k list (omega arith) in
          let m : ℕ = kept_of form cut b in
          let m_k : m ≤ k = (let w = again.within in omega arith) in
          let same : cut_at m cut ≡ cut_at m list = cut_at-cut_at m k list m_k (omega arith) in
          let up : m ≤ at = fit.longest m (omega arith) (subst (λ xs. size_of form xs ≤ b) same again.fits) in
          let down : at ≤ m = again.longest at (omega arith) (subst (λ xs. size_of form xs ≤ b) (sym (cut_at-cut_at at k list at_k (omega arith))) fit.fits) in
          let equal : m ≡ at = omega arith in
          trimmed-cut form cut b more ∙ same ∙ ap (λ n. cut_at n list) equal
          )
      | inr fits ↦ (
          let up : k ≤ at = fit.longest k (omega arith) fits in
          let equal : k ≡ at = omega arith in
          trimmed-fits form cut b fits ∙ ap (λ n. cut_at n list) equal
          )
    ]

-- To trim to one budget and then to another is to trim to the lesser of the two.
pub cuts_once : CutsOnce
cuts_once form list a b some_a some_b = elim (cases_lt a (size_of form list)) [
  | inr fits ↦ rw (trimmed-fits form list a fits) (
      elim (cases_lt a b) [
        | inl less ↦ (
            let least : min a b ≡ a = omega arith in
            trimmed-fits form list b (omega arith) ∙ sym (trimmed-fits form list a fits) ∙ ap (trimmed form list) (sym least)
            )
        | inr not_less ↦ (let least : min a b ≡ b = omega arith in ap (trimmed form list) (sym least))
      ]
      )
  | inl over ↦ (
      let k : ℕ = kept_of form list a in
      let fit : IsLongestFit form list a k = keeps_longest form list a some_a over in
      rw (trimmed-cut form list a over) (
      elim (cases_lt b a) [
        | inl less ↦ (
            let least : min a b ≡ b = omega arith in
            cuts_again form list b k some_b (omega arith) fit.within (λ n upto fits. fit.longest n upto (omega arith))
            ∙ sym (trimmed-cut form list b (omega arith)) ∙ ap (trimmed form list) (sym least)
            )
        | inr not_less ↦ (
            let least : min a b ≡ a = omega arith in
            trimmed-fits form (cut_at k list) b (let f = fit.fits in omega arith) ∙ sym (trimmed-cut form list a over) ∙ ap (trimmed form list) (sym least)
            )
      ]
      )
      )
]

-- The longest prefix that fits ends at the first atom with which the budget is passed, or one
-- before where no byte is left for the marker.
fit_before : (form : Form) (list : List Atom) (budget i : ℕ) → least_budget form ≤ budget → i < length list → size_of form (take i list) ≤ budget → budget < size_of form (take (i + 1) list)
    → IsLongestFit form list budget (if nat_lt (size_of form (take i list)) budget then i else i - 1)
fit_before form list budget i some within fits over = elim (cases_lt (size_of form (take i list)) budget) [
  | inl room ↦ (
      let here : (if nat_lt (size_of form (take i list)) budget then i else i - 1) ≡ i = grind (arith, nat_tests) in
      subst (IsLongestFit form list budget) (sym here) (record {
        within = within;
        fits = let e = size_of-cut form i list in omega arith;
        longest = λ n upto fit. (
            let e = size_of-cut form n list in
            elim (cases_lt i n) [ inl more ↦ (let m = size_of-take-le form (i + 1) n list (omega arith) in absurd (omega arith)) | inr less ↦ less ]
            );
      })
      )
  | inr full ↦ (
      let here : (if nat_lt (size_of form (take i list)) budget then i else i - 1) ≡ i - 1 = grind (arith, nat_tests) in
      let later : 0 < i = elim (cases_lt 0 i) [ inl more ↦ more | inr first ↦ (let z : i ≡ 0 = omega arith in let e : size_of form (take i list) ≡ size_of form [] = ap (λ k. size_of form (take k list)) z in let none = size_of-nothing form in absurd (omega arith)) ] in
      let grows : size_of form (take (i - 1) list) + 1 ≤ size_of form (take (i - 1 + 1) list) = size_of-grows form list (i - 1) (omega arith) in
      let back : size_of form (take (i - 1 + 1) list) ≡ size_of form (take i list) = ap (λ k. size_of form (take k list)) (omega arith) in
      subst (IsLongestFit form list budget) (sym here) (record {
        within = omega arith;
        fits = let e = size_of-cut form (i - 1) list in omega arith;
        longest = λ n upto fit. (
            let e = size_of-cut form n list in
            elim (cases_lt (i - 1) n) [ inl more ↦ (let m = size_of-take-le form i n list (omega arith) in absurd (omega arith)) | inr less ↦ less ]
            );
      })
      )
]

pub kept_of-before : (form : Form) (list : List Atom) (budget i : ℕ) → least_budget form ≤ budget → i < length list → size_of form (take i list) ≤ budget → budget < size_of form (take (i + 1) list)
    → kept_of form list budget ≡ (if nat_lt (size_of form (take i list)) budget then i else i - 1)
kept_of-before form list budget i some within fits over =
    let more : budget < size_of form list = (let f = size_of-front form (i + 1) list in omega arith) in
    IsLongestFit-unique form list budget _ _ (keeps_longest form list budget some more) (fit_before form list budget i some within fits over)

-- All atoms stay exactly where the list fits.
pub kept_of-all : (form : Form) (list : List Atom) (budget : ℕ) → least_budget form ≤ budget → length list ≤ kept_of form list budget → size_of form list ≤ budget
kept_of-all form list budget some all = elim (cases_lt budget (size_of form list)) [
  | inl over ↦ (let fit = keeps_longest form list budget some over in let w = fit.within in absurd (omega arith))
  | inr fits ↦ fits
]
