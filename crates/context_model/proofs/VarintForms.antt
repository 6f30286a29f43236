-- The forms of numbers with a given count of bytes: their first byte, and that a form tells its count and its number.
use Rattle.std.proofs.Common.{◌≡◌, ℕ, ◌+◌, ◌-◌, ◌/◌, ◌^◌, ◌<◌, ◌≤◌, List, ◌∷◌, ◌++◌, length, Equal, nat_cmp, sym, ap, subst₂, ◌∙◌, subst, arith, inl, inr, ◌⊎◌}
use Rattle.std.proofs.Math.Nat.{div-lt_iff_lt-mul}
use Rattle.std.proofs.lemmas.Bool.{cases_order}
use Rattle.std.proofs.lemmas.List.{map-id}
use Rattle.std.proofs.lemmas.Cmp.{tied_itself, nat_list_cmp_total}
use Rattle.std.specs.FinMap.{nat_cmp-IsAntisymmetric}
use Rattle.std.specs.Ordering.{ordering_then}
use Rattle.std.specs.Cmp.Lexicographic.{slice_cmp}
use Rattle.context_model.specs.Varints.{big_endian, unsigned_form, natural_form}
use Rattle.context_model.proofs.Digits.{power_positive, length-big_endian, keeps, topped-order}
use Rattle.context_model.proofs.VarintLaws.{tied, unsigned_first, unsigned_room, unsigned_rises, unsigned_bytes, natural_first, natural_room, natural_rises, natural_bytes}

-- bytes with one first part tell the number after it
topped-injective : (c k m n : ℕ) (s t : List ℕ) → c + m / 256 ^ k < 256 → c + n / 256 ^ k < 256
    → (c + m / 256 ^ k) ∷ big_endian k m ++ s ≡ (c + n / 256 ^ k) ∷ big_endian k n ++ t → m ≡ n
topped-injective c k m n s t hm hn e = nat_cmp-IsAntisymmetric m n (tied (nat_cmp m n) (slice_cmp nat_cmp s t) (sym order ∙ same))
  where
    order : slice_cmp nat_cmp ((c + m / 256 ^ k) ∷ big_endian k m ++ s) ((c + n / 256 ^ k) ∷ big_endian k n ++ t) ≡ ordering_then (nat_cmp m n) (slice_cmp nat_cmp s t)
    order =
        subst₂ (λ a b. slice_cmp nat_cmp ((c + m / 256 ^ k) ∷ a ++ s) ((c + n / 256 ^ k) ∷ b ++ t) ≡ ordering_then (nat_cmp m n) (slice_cmp nat_cmp s t))
        (map-id (big_endian k m)) (map-id (big_endian k n)) (topped-order (λ b. b) (λ o. o) keeps c k m n s t hm hn)

    same : slice_cmp nat_cmp ((c + m / 256 ^ k) ∷ big_endian k m ++ s) ((c + n / 256 ^ k) ∷ big_endian k n ++ t) ≡ Equal
    same = ap (λ l. slice_cmp nat_cmp l ((c + n / 256 ^ k) ∷ big_endian k n ++ t)) e ∙ tied_itself nat_list_cmp_total ((c + n / 256 ^ k) ∷ big_endian k n ++ t)

-- ---- unsigned

pub unsigned_part : (k n : ℕ) → n < unsigned_room k → n / 256 ^ k < 2 ^ (7 - k)
unsigned_part k n h = (div-lt_iff_lt-mul (power_positive k)).1 h

pub unsigned_part-back : (k n : ℕ) → n / 256 ^ k < 2 ^ (7 - k) → n < unsigned_room k
unsigned_part-back k n h = (div-lt_iff_lt-mul (power_positive k)).0 h

pub unsigned_byte : (k n : ℕ) → k ≤ 8 → n < unsigned_room k → unsigned_first k + n / 256 ^ k < 256
unsigned_byte k n h l = let p : n / 256 ^ k < 2 ^ (7 - k) = unsigned_part k n l in let b : unsigned_first k + 2 ^ (7 - k) ≤ 256 = unsigned_bytes k h in omega arith

pub unsigned_form-unique : (j k m n : ℕ) (s t : List ℕ) → j ≤ 8 → k ≤ 8 → m < unsigned_room j → n < unsigned_room k
    → unsigned_form j m ++ s ≡ unsigned_form k n ++ t → (j ≡ k) × (m ≡ n)
unfolding unsigned_form
unsigned_form-unique j k m n s t hj hk hm hn e = elim (cases_order j k) [
  | inl same ↦ (
    same,
    topped-injective (unsigned_first j) j m n s t (unsigned_byte j m hj hm) (subst (λ v. unsigned_first v + n / 256 ^ v < 256) (sym same) (unsigned_byte k n hk hn))
        (e ∙ ap (λ v. (unsigned_first v + n / 256 ^ v) ∷ big_endian v n ++ t) (sym same)),
  )
  | inr (inl less) ↦ let rise : unsigned_first j + 2 ^ (7 - j) ≤ unsigned_first k = unsigned_rises j k hk less in absurd (omega (arith, heads, unsigned_part j m hm))
  | inr (inr less) ↦ let rise : unsigned_first k + 2 ^ (7 - k) ≤ unsigned_first j = unsigned_rises k j hj less in absurd (omega (arith, heads, unsigned_part k n hn))
]
  where
    heads : unsigned_first j + m / 256 ^ j ≡ unsigned_first k + n / 256 ^ k
    heads = cc

pub length-unsigned_form : (k n : ℕ) → length (unsigned_form k n) ≡ k + 1
unfolding unsigned_form
length-unsigned_form k n = let e : length (big_endian k n) ≡ k = length-big_endian k n in omega arith

-- ---- signed, from 0 on

pub natural_part : (k n : ℕ) → n < natural_room k → n / 256 ^ k < 2 ^ (6 - k)
natural_part k n h = (div-lt_iff_lt-mul (power_positive k)).1 h

pub natural_part-back : (k n : ℕ) → n / 256 ^ k < 2 ^ (6 - k) → n < natural_room k
natural_part-back k n h = (div-lt_iff_lt-mul (power_positive k)).0 h

pub natural_byte : (k n : ℕ) → k ≤ 8 → n < natural_room k → natural_first k + n / 256 ^ k < 256
natural_byte k n h l = let p : n / 256 ^ k < 2 ^ (6 - k) = natural_part k n l in let b : natural_first k + 2 ^ (6 - k) ≤ 256 = natural_bytes k h in omega arith

pub length_bound : (k : ℕ) → (k < 7) ⊎ (k ≡ 8) → k ≤ 8
length_bound k (inl h) = omega arith
length_bound k (inr h) = omega arith

pub natural_rises-lengths : (j k : ℕ) → (j < 7) ⊎ (j ≡ 8) → (k < 7) ⊎ (k ≡ 8) → j < k → natural_first j + 2 ^ (6 - j) ≤ natural_first k
natural_rises-lengths j k (inl h) hk l = natural_rises j k h (length_bound k hk) l
natural_rises-lengths j k (inr h) hk l = let b : k ≤ 8 = length_bound k hk in absurd (omega arith)

pub natural_form-unique : (j k m n : ℕ) (s t : List ℕ) → (j < 7) ⊎ (j ≡ 8) → (k < 7) ⊎ (k ≡ 8) → m < natural_room j → n < natural_room k
    → natural_form j m ++ s ≡ natural_form k n ++ t → (j ≡ k) × (m ≡ n)
unfolding natural_form
natural_form-unique j k m n s t hj hk hm hn e = elim (cases_order j k) [
  | inl same ↦ (
    same,
    topped-injective (natural_first j) j m n s t (natural_byte j m (length_bound j hj) hm) (subst (λ v. natural_first v + n / 256 ^ v < 256) (sym same) (natural_byte k n (length_bound k hk) hn))
        (e ∙ ap (λ v. (natural_first v + n / 256 ^ v) ∷ big_endian v n ++ t) (sym same)),
  )
  | inr (inl less) ↦ let rise : natural_first j + 2 ^ (6 - j) ≤ natural_first k = natural_rises-lengths j k hj hk less in absurd (omega (arith, heads, natural_part j m hm))
  | inr (inr less) ↦ let rise : natural_first k + 2 ^ (6 - k) ≤ natural_first j = natural_rises-lengths k j hk hj less in absurd (omega (arith, heads, natural_part k n hn))
]
  where
    heads : natural_first j + m / 256 ^ j ≡ natural_first k + n / 256 ^ k
    heads = cc

pub length-natural_form : (k n : ℕ) → length (natural_form k n) ≡ k + 1
unfolding natural_form
length-natural_form k n = let e : length (big_endian k n) ≡ k = length-big_endian k n in omega arith
