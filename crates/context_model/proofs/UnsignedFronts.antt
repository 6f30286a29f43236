-- What the first byte of a varint says, and that at most one number is at the beginning of bytes.
use Rattle.std.proofs.Common.{◌≡◌, ℕ, suc, ◌+◌, ◌-◌, ◌*◌, ◌/◌, ◌^◌, ◌<◌, ◌≤◌, List, [], ◌∷◌, ◌++◌, length, sym, refl, ap, ◌∙◌, subst, arith, inl, inr, length-append}
use Rattle.std.specs.Int.{leading_ones, w8}
use Rattle.std.proofs.lemmas.Nat.{leading_top}
use Rattle.std.proofs.lemmas.Bool.{cases_lt, cases_order}
use Rattle.std.proofs.Math.Nat.{pow-suc}
use lib.Count.{count_leading_zeros}
use Rattle.context_model.specs.Varints.{big_endian, unsigned_form, unsigned_tail, unsigned_varint, BeginsWith, IsUnsignedAt, IsUnsignedCut, IsUnsignedLong}
use Rattle.context_model.proofs.Digits.{length-big_endian}
use Rattle.context_model.proofs.VarintLaws.{powers, unsigned_first, unsigned_rises, unsigned_room, unsigned_tail-bound, unsigned_tail-room, unsigned_tail-below, unsigned_bytes}
use Rattle.context_model.proofs.VarintForms.{unsigned_part, unsigned_form-unique, length-unsigned_form}

-- the byte lies where bytes that begin with k ones lie
pub record HasOnes (b k : ℕ) : Type 0 where
  pub most : k ≤ 8
  pub low : unsigned_first k ≤ b
  pub high : b < unsigned_first k + 2 ^ (7 - k)

all_ones : count_leading_zeros 8 0 ≡ 8
unfolding count_leading_zeros
all_ones = refl

pub HasOnes-leading : (b : ℕ) → b < 256 → HasOnes b (leading_ones w8 b)
HasOnes-leading b h = elim (cases_lt b 255) [ inl o ↦ below o | inr o ↦ whole (omega arith) ]
  where
    whole : b ≡ 255 → HasOnes b (count_leading_zeros 8 (255 - b))
    whole e = subst (λ v. HasOnes b v) (sym (ap (λ v. count_leading_zeros 8 (255 - v)) e ∙ all_ones)) (record { most = omega arith; low = omega arith; high = omega arith })

    below : b < 255 → HasOnes b (count_leading_zeros 8 (255 - b))
    below o = by (leading_top 8 (255 - b) (omega arith) (omega arith))
      where
        by : (j : ℕ) × (count_leading_zeros 8 (255 - b) + suc j ≡ 8) × (2 ^ j ≤ 255 - b) × (255 - b < 2 ^ suc j) → HasOnes b (count_leading_zeros 8 (255 - b))
        by (j, e, low, high) =
            let k : ℕ = count_leading_zeros 8 (255 - b) in
            let seven : 7 - k ≡ j = omega arith in
            let eight : 8 - k ≡ suc j = omega arith in
            let small : 2 ^ (7 - k) ≡ 2 ^ j = ap (λ v. 2 ^ v) seven in
            let great : 2 ^ (8 - k) ≡ 2 ^ suc j = ap (λ v. 2 ^ v) eight in
            let double : 2 ^ suc j ≡ 2 ^ j * 2 = pow-suc 2 j in
            let most : 2 ^ suc j ≤ 2 ^ 8 = powers (suc j) 8 (omega arith) in
            record { most = omega arith; low = omega arith; high = omega arith }

pub HasOnes-unique : (b j k : ℕ) → HasOnes b j → HasOnes b k → j ≡ k
HasOnes-unique b j k f g = elim (cases_order j k) [
  | inl e ↦ e
  | inr (inl less) ↦ let rise : unsigned_first j + 2 ^ (7 - j) ≤ unsigned_first k = unsigned_rises j k g.most less in absurd (omega arith)
  | inr (inr less) ↦ let rise : unsigned_first k + 2 ^ (7 - k) ≤ unsigned_first j = unsigned_rises k j f.most less in absurd (omega arith)
]

-- the bytes begin with the number in the form with k bytes after the first, be they too many or not
pub record Stands (bytes : List ℕ) (k n : ℕ) : Type 0 where
  pub few : k ≤ 8
  pub room : n < unsigned_room k
  pub front : BeginsWith bytes (unsigned_form k n)

pub Stands-unique : (bytes : List ℕ) (j k m n : ℕ) → Stands bytes j m → Stands bytes k n → (j ≡ k) × (m ≡ n)
Stands-unique bytes j k m n f g = unsigned_form-unique j k m n f.front.0 g.front.0 f.few g.few f.room g.room (sym f.front.1 ∙ g.front.1)

pub Stands-taken : (bytes : List ℕ) (v count : ℕ) → IsUnsignedAt bytes v count → Stands bytes (unsigned_tail v) v
unfolding unsigned_varint
Stands-taken bytes v count t = record { few = unsigned_tail-bound v t.fits; room = unsigned_tail-room v t.fits; front = t.front }

pub Stands-long : (bytes : List ℕ) → (f : IsUnsignedLong bytes) → Stands bytes f.tail f.value
Stands-long bytes f = record { few = f.room; room = unsigned_tail-below f.tail f.value f.room f.longer; front = f.front }

pub Stands-ones : (first : ℕ) (rest : List ℕ) (k n : ℕ) → Stands (first ∷ rest) k n → HasOnes first k × (k ≤ length rest)
unfolding unsigned_form
Stands-ones first rest k n f =
    let head : first ≡ unsigned_first k + n / 256 ^ k = heads in
    let part : n / 256 ^ k < 2 ^ (7 - k) = unsigned_part k n f.room in
    (record { most = f.few; low = omega arith; high = omega arith }, long)
  where
    heads : first ≡ unsigned_first k + n / 256 ^ k
    heads = cc (f.front.1)

    tails : rest ≡ big_endian k n ++ f.front.0
    tails = cc (f.front.1)

    long : k ≤ length rest
    long = omega (arith, ap length tails, length-append (big_endian k n) f.front.0, length-big_endian k n)

pub Stands-uncut : (bytes : List ℕ) (k n : ℕ) → Stands bytes k n → IsUnsignedCut bytes → ⊥
Stands-uncut [] k n f cut = absurd (omega (arith, ap length (f.front.1), length-append (unsigned_form k n) f.front.0, length-unsigned_form k n))
Stands-uncut (first ∷ rest) k n f cut =
    let s : HasOnes first k × (k ≤ length rest) = Stands-ones first rest k n f in
    let low : first < 256 = below s.0 (unsigned_bytes k f.few) in
    let same : leading_ones w8 first ≡ k = HasOnes-unique first (leading_ones w8 first) k (HasOnes-leading first low) s.0 in
    let more : k ≤ length rest = s.1 in
    absurd (omega arith)
  where
    below : HasOnes first k → unsigned_first k + 2 ^ (7 - k) ≤ 256 → first < 256
    below o h = omega (arith, o.high)
