-- What the count of ones at the beginning of a byte says of the byte.
use Rattle.std.proofs.Common.{◌≡◌, ℕ, ◌+◌, ◌-◌, ◌^◌, ◌<◌, ◌≤◌, [], ◌∷◌, get_or, cond, eqb, eq-eqb, ne_eqb, sym, refl, ap, subst, arith, inl, inr, ◌⊎◌}
use Rattle.std.specs.Int.{leading_ones, w8}
use Rattle.std.proofs.lemmas.Bool.{cases_eq}
use Rattle.context_model.proofs.VarintLaws.{upto_eight, unsigned_first, natural_first}
use Rattle.context_model.proofs.UnsignedFronts.{HasOnes, HasOnes-leading}
use Rattle.lex_varint.specs.Readings.{natural_demand}

-- the same for the bytes that begin the codes of signed numbers from 0 on
pub record HasNaturalOnes (b k : ℕ) : Type 0 where
  pub most : (k < 7) ⊎ (k ≡ 8)
  pub low : natural_first k ≤ b
  pub high : b < natural_first k + 2 ^ (6 - k)

pub HasNaturalOnes-follows : (b : ℕ) → b < 256 → 128 ≤ b → HasNaturalOnes b (natural_demand b)
HasNaturalOnes-follows b h l = by (leading_ones w8 b) (HasOnes-leading b h)
  where
    by : (k : ℕ) → HasOnes b k → HasNaturalOnes b (cond (eqb k 8) 8 (k - 1))
    by k o = elim (cases_eq k 8) [
      | inl e ↦ subst (λ v. HasNaturalOnes b (cond v 8 (k - 1))) (sym (eq-eqb k 8 e))
          (let eight : 2 ^ (8 - k) ≡ 2 ^ 0 = ap (λ v. 2 ^ (8 - v)) e in record { most = inr refl; low = omega arith; high = omega arith })
      | inr n ↦ subst (λ v. HasNaturalOnes b (cond v 8 (k - 1))) (sym (ne_eqb k 8 n)) (short n (some o.high))
    ]
      where
        some : b < unsigned_first k + 2 ^ (7 - k) → 0 < k
        some high = elim (cases_eq k 0) [ inl e ↦ let zero_first : unsigned_first k + 2 ^ (7 - k) ≡ 128 = ap (λ v. unsigned_first v + 2 ^ (7 - v)) e in absurd (omega arith) | inr n ↦ omega arith ]

        short : (k ≡ 8 → ⊥) → 0 < k → HasNaturalOnes b (k - 1)
        short n some =
            let most : k ≤ 8 = o.most in
            let seven : 7 - (k - 1) ≡ 8 - k = omega arith in
            let six : 6 - (k - 1) ≡ 7 - k = omega arith in
            let great : 2 ^ (7 - (k - 1)) ≡ 2 ^ (8 - k) = ap (λ v. 2 ^ v) seven in
            let small : 2 ^ (6 - (k - 1)) ≡ 2 ^ (7 - k) = ap (λ v. 2 ^ v) six in
            record { most = inl (omega arith); low = omega (arith, o.low); high = omega (arith, o.high) }

-- the table of the bytes that begin with k ones
pub ones_at : (k : ℕ) → k ≤ 8 → get_or (0 ∷ 128 ∷ 192 ∷ 224 ∷ 240 ∷ 248 ∷ 252 ∷ 254 ∷ 255 ∷ []) k 0 ≡ unsigned_first k
ones_at = upto_eight (λ k. get_or (0 ∷ 128 ∷ 192 ∷ 224 ∷ 240 ∷ 248 ∷ 252 ∷ 254 ∷ 255 ∷ []) k 0 ≡ unsigned_first k) refl refl refl refl refl refl refl refl refl

pub ones_some : (b : ℕ) → b < 256 → 128 ≤ b → 1 ≤ leading_ones w8 b
ones_some b h l = by (leading_ones w8 b) (HasOnes-leading b h)
  where
    by : (k : ℕ) → HasOnes b k → 1 ≤ k
    by k o = elim (cases_eq k 0) [
      | inl e ↦ let whole : unsigned_first k + 2 ^ (7 - k) ≡ 128 = ap (λ v. unsigned_first v + 2 ^ (7 - v)) e in absurd (omega (arith, o.high))
      | inr n ↦ omega arith
    ]
