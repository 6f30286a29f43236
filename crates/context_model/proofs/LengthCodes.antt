-- Lengths in form one: where they end, what they say, and what is wrong after one.
use Rattle.std.proofs.Common.{◌≡◌, ℕ, ◌+◌, ◌-◌, ◌/◌, ◌%◌, ◌<◌, ◌≤◌, inl, inr, Bool, false, [], List, ◌∷◌, ◌++◌, length, drop, get_or, nat_lt, ◌==◌, ◌&&◌, if◌then◌else◌, Some, None, refl, arith}
use Rattle.std.proofs.lemmas.List.{drop_at}
use Rattle.std.proofs.lemmas.Bool.{cases_lt}
use Rattle.std.proofs.lemmas.Bool.Decides.{nat_tests}
use Rattle.context_model.specs.declared.TheConstants.{LENGTH_MAX}
use Rattle.context_model.specs.Framing.{base_128}
use Rattle.context_model.specs.ByteCodes.ByteCode.{CutBody}
use Rattle.context_model.specs.WireFault.{length_front, length_said, is_open, wire_code}

-- ---- a number in base 128: its three forms
pub code_one : (n : ℕ) → n < 128 → base_128 n ≡ n ∷ []
unfolding base_128
code_one n h = grind (arith, nat_tests)

pub code_two : (n : ℕ) → 128 ≤ n → n < 16384 → base_128 n ≡ (n % 128 + 128) ∷ (n / 128) ∷ []
unfolding base_128
code_two n h k = grind (arith, nat_tests)

pub code_three : (n : ℕ) → 16384 ≤ n → base_128 n ≡ (n % 128 + 128) ∷ (n / 128 % 128 + 128) ∷ (n / 16384) ∷ []
unfolding base_128
code_three n h = grind (arith, nat_tests)

-- The bytes of a length end where its last byte does, whatever follows.
front_one : (a : ℕ) (xs : List ℕ) → a < 128 → length_front (a ∷ xs) ≡ a ∷ []
unfolding length_front
front_one a xs h = grind (arith, nat_tests)

front_two : (a b : ℕ) (xs : List ℕ) → 128 ≤ a → b < 128 → length_front (a ∷ b ∷ xs) ≡ a ∷ b ∷ []
unfolding length_front
front_two a b xs h k = grind (arith, nat_tests)

front_three : (a b c : ℕ) (xs : List ℕ) → 128 ≤ a → 128 ≤ b → c < 128 → length_front (a ∷ b ∷ c ∷ xs) ≡ a ∷ b ∷ c ∷ []
unfolding length_front
front_three a b c xs h k m = grind (arith, nat_tests)

pub length_front-code : (n : ℕ) (xs : List ℕ) → n < 2097152 → length_front (base_128 n ++ xs) ≡ base_128 n
length_front-code n xs within = elim (cases_lt n 128) [
  | inl one ↦ rw (code_one n one) (front_one n xs one)
  | inr more ↦ elim (cases_lt n 16384) [
    | inl two ↦ rw (code_two n more two) (front_two (n % 128 + 128) (n / 128) xs (omega arith) (omega arith))
    | inr three ↦ rw (code_three n three) (front_three (n % 128 + 128) (n / 128 % 128 + 128) (n / 16384) xs (omega arith) (omega arith) (omega arith))
  ]
]

pub length_said-code : (n : ℕ) → n < 2097152 → length_said (base_128 n) ≡ n
length_said-code n within = elim (cases_lt n 128) [
  | inl one ↦ rw (code_one n one) (omega arith)
  | inr more ↦ elim (cases_lt n 16384) [
    | inl two ↦ rw (code_two n more two) (omega arith)
    | inr three ↦ rw (code_three n three) (omega arith)
  ]
]

-- The last byte of a length has no top bit, and isn't 0 where there is one before it.
code_ends : (n : ℕ) → n < 2097152 → is_open (base_128 n) ≡ false
code_ends n within = elim (cases_lt n 128) [
  | inl one ↦ rw (code_one n one) (grind (arith, nat_tests))
  | inr more ↦ elim (cases_lt n 16384) [
    | inl two ↦ rw (code_two n more two) (grind (arith, nat_tests))
    | inr three ↦ rw (code_three n three) (grind (arith, nat_tests))
  ]
]

abbrev long_form : List ℕ → Bool
long_form code = nat_lt 1 (length code) && (get_or code (length code - 1) 0 == 0)

code_short : (n : ℕ) → long_form (base_128 n) ≡ false
code_short n = elim (cases_lt n 128) [
  | inl one ↦ rw (code_one n one) refl
  | inr more ↦ elim (cases_lt n 16384) [
    | inl two ↦ rw (code_two n more two) (grind (arith, nat_tests))
    | inr three ↦ rw (code_three n three) (grind (arith, nat_tests))
  ]
]

-- What is wrong after a length that is rightly spelled: that the body is cut, or nothing.
pub wire_code-length : (n : ℕ) (behind : List ℕ) → n ≤ LENGTH_MAX → wire_code (base_128 n ++ behind) ≡ (if nat_lt (length behind) n then Some CutBody else None)
unfolding wire_code
wire_code-length n behind within =
    let front = length_front-code n behind (omega arith) in
    let said = length_said-code n (omega arith) in
    let body : drop (length (base_128 n)) (base_128 n ++ behind) ≡ behind = drop_at (base_128 n) behind (length (base_128 n)) refl in
    rw (front, said, body, code_ends n (omega arith), code_short n) (grind (arith, nat_tests))
