-- The atom that comes first in bytes, where they begin with its frame.
use Rattle.std.proofs.Common.{◌≡◌, ℕ, ◌+◌, ◌-◌, ◌/◌, ◌%◌, ◌<◌, ◌≤◌, zero, suc, Bool, true, false, ◌||◌, nat_lt, List, [], ◌∷◌, ◌++◌, length, take, drop, slice_range, get_or, refl, sym, ◌∙◌, ap, append_assoc, length-append, arith, inl, inr, ◌⊎◌}
use Rattle.std.proofs.lemmas.List.{take_at, drop_at, take_more, map-append, length-take, length-drop, drop-drop, drop_all, get_or-drop, get_or_append_left}
use Rattle.std.proofs.lemmas.Bool.{cases_lt}
use Rattle.std.proofs.lemmas.Bool.Decides.{nat_tests}
use Rattle.context_model.specs.declared.TheConstants.{ATOM_MAX, LENGTH_MAX}
use Rattle.context_model.specs.Atoms.{Atom}
use Rattle.context_model.specs.declared.Form.TheVariants.{One}
use Rattle.context_model.specs.Framing.{base_128, frame, has_long}
use Rattle.context_model.proofs.FramingLaws.{length-base_128, long-append}
use Rattle.context_model.specs.WireFault.{length_front, length_said}
use Rattle.context_model.proofs.LengthCodes.{code_one, code_two, code_three, length_front-code, length_said-code}
use Rattle.atom_list.specs.Starts.{first_atom, atom_framed_at, atoms_at, BeginsFrame, IsStart}

-- ---- the atom

pub first_atom-framed : (atom : Atom) (rest : List ℕ) → length atom ≤ ATOM_MAX → first_atom (frame One atom ++ rest) ≡ atom
unfolding first_atom
first_atom-framed atom rest short =
    let code = base_128 (length atom) in
    let whole : frame One atom ++ rest ≡ code ++ (atom ++ rest) = append_assoc code atom rest in
    let front : length_front (frame One atom ++ rest) ≡ code = ap length_front whole ∙ length_front-code (length atom) (atom ++ rest) (omega arith) in
    let said : length_said (length_front (frame One atom ++ rest)) ≡ length atom = ap length_said front ∙ length_said-code (length atom) (omega arith) in
    let skip = length (length_front (frame One atom ++ rest)) in
    let skips : skip ≡ length code = ap length front in
    let many : skip + length_said (length_front (frame One atom ++ rest)) - skip ≡ length atom = omega arith in
    ap (λ n. take n (drop skip (frame One atom ++ rest))) many
    ∙ ap (λ v. take (length atom) v) (ap (drop skip) whole ∙ drop_at code (atom ++ rest) skip (sym skips))
    ∙ take_at atom rest (length atom) refl

-- After the buffer's end comes a marker.
pub first_atom-none : first_atom [] ≡ []
unfolding first_atom length_front
first_atom-none = refl

pub atom_at-behind : (bytes : List ℕ) (start : ℕ) → length bytes ≤ start → atom_framed_at bytes start ≡ []
atom_at-behind bytes start behind = ap first_atom (drop_all start bytes behind) ∙ first_atom-none

pub short_atom : (bytes : List ℕ) (start : ℕ) → IsStart bytes start → length (atom_framed_at bytes start) ≤ ATOM_MAX
short_atom bytes start (inl behind) = omega (arith, ap length (atom_at-behind bytes start behind))
short_atom bytes start (inr (atom, rest, short, e)) = omega (arith, ap length (ap first_atom e ∙ first_atom-framed atom rest short))

-- An atom isn't longer than its buffer, so a buffer that is short enough has no long atom.
first_within : (bytes : List ℕ) → length (first_atom bytes) ≤ length bytes
unfolding first_atom
first_within bytes =
    let code = length_front bytes in
    let skip = length code in
    omega (arith, length-take (skip + length_said code - skip) (drop skip bytes), length-drop skip bytes)

pub none_long : (bytes starts : List ℕ) → length bytes ≤ LENGTH_MAX → has_long (atoms_at bytes starts) ≡ false
none_long bytes [] few = refl
none_long bytes (start ∷ starts) few =
    let short : nat_lt LENGTH_MAX (length (atom_framed_at bytes start)) ≡ false = grind (arith, nat_tests, first_within (drop start bytes), length-drop start bytes) in
    ap (λ long. long || has_long (atoms_at bytes starts)) short ∙ none_long bytes starts few

-- One start more, of an atom that isn't long.
pub none_more : (bytes starts : List ℕ) (i : ℕ) → i < length starts → has_long (atoms_at bytes (take i starts)) ≡ false → length (atom_framed_at bytes (get_or starts i 0)) ≤ LENGTH_MAX
    → has_long (atoms_at bytes (take (i + 1) starts)) ≡ false
none_more bytes starts i within none few =
    let atom = atom_framed_at bytes (get_or starts i 0) in
    let short : nat_lt LENGTH_MAX (length atom) ≡ false = grind (arith, nat_tests) in
    ap (λ v. has_long (atoms_at bytes v)) (take_more starts i 0 within) ∙ ap has_long (map-append (atom_framed_at bytes) (take i starts) (get_or starts i 0 ∷ []))
    ∙ long-append (atoms_at bytes (take i starts)) (atom ∷ []) ∙ ap (λ long. long || has_long (atom ∷ [])) none ∙ ap (λ long. long || false) short

-- A start of a long atom.
pub some_long : (bytes starts : List ℕ) (i : ℕ) → i < length starts → LENGTH_MAX < length (atom_framed_at bytes (get_or starts i 0)) → has_long (atoms_at bytes starts) ≡ true
some_long bytes [] i within more = absurd (omega arith)
some_long bytes (start ∷ starts) zero within more =
    let long : nat_lt LENGTH_MAX (length (atom_framed_at bytes start)) ≡ true = grind (arith, nat_tests) in
    ap (λ long. long || has_long (atoms_at bytes starts)) long
some_long bytes (start ∷ starts) (suc i) within more = or_true (nat_lt LENGTH_MAX (length (atom_framed_at bytes start))) (has_long (atoms_at bytes starts)) (some_long bytes starts i (omega arith) more)
  where
    or_true : (a b : Bool) → b ≡ true → (a || b) ≡ true
    or_true true b e = refl
    or_true false b e = e

-- ---- a length that is read byte by byte

-- The bytes of a buffer from a place on that hold a length: as many as its code has, each where it is read.
pub record StandsAt (bytes : List ℕ) (start : ℕ) (code : List ℕ) : Type 0 where
  pub within : start + length code ≤ length bytes
  pub each : (k : ℕ) → k < length code → get_or bytes (start + k) 0 ≡ get_or code k 0

stands_at : (bytes code rest : List ℕ) (start : ℕ) → 1 ≤ length code → drop start bytes ≡ code ++ rest → StandsAt bytes start code
stands_at bytes code rest start some e =
    let long : length bytes - start ≡ length code + length rest = sym (length-drop start bytes) ∙ ap length e ∙ length-append code rest in
    record {
      within = omega arith;
      each = λ k below. sym (get_or-drop start bytes k 0) ∙ ap (λ v. get_or v k 0) e ∙ get_or_append_left code rest 0 k below;
    }

-- What the bytes at a place say of the length there.
pub record OneByte (bytes : List ℕ) (start n : ℕ) : Type 0 where
  pub within : start + 1 ≤ length bytes
  pub low : get_or bytes start 0 ≡ n
  pub few : n < 128
  pub count : length (base_128 n) ≡ 1

pub record TwoBytes (bytes : List ℕ) (start n : ℕ) : Type 0 where
  pub within : start + 2 ≤ length bytes
  pub low : get_or bytes start 0 ≡ n % 128 + 128
  pub middle : get_or bytes (start + 1) 0 ≡ n / 128
  pub few : n < 16384
  pub count : length (base_128 n) ≡ 2

pub record ThreeBytes (bytes : List ℕ) (start n : ℕ) : Type 0 where
  pub within : start + 3 ≤ length bytes
  pub low : get_or bytes start 0 ≡ n % 128 + 128
  pub middle : get_or bytes (start + 1) 0 ≡ n / 128 % 128 + 128
  pub high : get_or bytes (start + 2) 0 ≡ n / 16384
  pub count : length (base_128 n) ≡ 3

pub forms : (bytes rest : List ℕ) (start n : ℕ) → drop start bytes ≡ base_128 n ++ rest → OneByte bytes start n ⊎ (TwoBytes bytes start n ⊎ ThreeBytes bytes start n)
forms bytes rest start n e =
    let first : start + 0 ≡ start = omega arith in
    elim (cases_lt n 128) [
      | inl one ↦
          let is = code_one n one in
          let at : StandsAt bytes start (n ∷ []) = stands_at bytes (n ∷ []) rest start (omega arith) (e ∙ ap (λ v. v ++ rest) is) in
          inl (record { within = at.within; low = ap (λ m. get_or bytes m 0) (sym first) ∙ at.each 0 (omega arith); few = one; count = ap length is })
      | inr more ↦ elim (cases_lt n 16384) [
        | inl two ↦
            let is = code_two n more two in
            let at : StandsAt bytes start ((n % 128 + 128) ∷ (n / 128) ∷ []) = stands_at bytes ((n % 128 + 128) ∷ (n / 128) ∷ []) rest start (omega arith) (e ∙ ap (λ v. v ++ rest) is) in
            inr (inl (record { within = at.within; low = ap (λ m. get_or bytes m 0) (sym first) ∙ at.each 0 (omega arith); middle = at.each 1 (omega arith); few = two; count = ap length is }))
        | inr three ↦
            let is = code_three n three in
            let code = (n % 128 + 128) ∷ (n / 128 % 128 + 128) ∷ (n / 16384) ∷ [] in
            let at : StandsAt bytes start code = stands_at bytes code rest start (omega arith) (e ∙ ap (λ v. v ++ rest) is) in
            inr (inr (record { within = at.within; low = ap (λ m. get_or bytes m 0) (sym first) ∙ at.each 0 (omega arith); middle = at.each 1 (omega arith); high = at.each 2 (omega arith); count = ap length is }))
      ]
    ]

-- The length of the frame at a place, by its bytes there.
pub record LengthAt (bytes : List ℕ) (start : ℕ) : Type 0 where
  pub said : ℕ
  pub forms : OneByte bytes start said ⊎ (TwoBytes bytes start said ⊎ ThreeBytes bytes start said)
  pub short : said ≤ ATOM_MAX
  pub code : length (length_front (drop start bytes)) ≡ length (base_128 said)
  pub says : length_said (length_front (drop start bytes)) ≡ said
  pub within : start + length (base_128 said) + said ≤ length bytes
  pub framed : length (frame One (atom_framed_at bytes start)) ≡ length (base_128 said) + said

pub length_at : (bytes : List ℕ) (start : ℕ) → BeginsFrame (drop start bytes) → LengthAt bytes start
length_at bytes start (atom, rest, short, e) =
    let n = length atom in
    let code = base_128 n in
    let fits : n < 2097152 = omega arith in
    let whole : drop start bytes ≡ code ++ (atom ++ rest) = e ∙ append_assoc code atom rest in
    let front : length_front (drop start bytes) ≡ code = ap length_front whole ∙ length_front-code n (atom ++ rest) fits in
    let long : length bytes - start ≡ length code + length (atom ++ rest) = sym (length-drop start bytes) ∙ ap length whole ∙ length-append code (atom ++ rest) in
    record {
      said = n;
      forms = forms bytes (atom ++ rest) start n whole;
      short = short;
      code = ap length front;
      says = ap length_said front ∙ length_said-code n fits;
      within = omega (arith, long, length-append atom rest, (length-base_128 n).0);
      framed = ap (λ v. length (frame One v)) (ap first_atom e ∙ first_atom-framed atom rest short) ∙ length-append code atom;
    }

-- The atom is the part of the buffer that its length says.
pub atom_is : (bytes : List ℕ) (start skip len : ℕ) → skip ≡ length (length_front (drop start bytes)) → len ≡ length_said (length_front (drop start bytes)) → slice_range bytes (start + skip) (start + skip + len) ≡ atom_framed_at bytes start
unfolding first_atom
atom_is bytes start skip len s l =
    let code = length_front (drop start bytes) in
    let many : start + skip + len - (start + skip) ≡ length code + length_said code - length code = omega arith in
    ap (λ n. take n (drop (start + skip) bytes)) many ∙ ap (take (length code + length_said code - length code)) (sym (drop-drop skip start bytes) ∙ ap (λ n. drop n (drop start bytes)) s)
