-- What the first byte of a code needs, and that the code made of its parts is the varint.
use Rattle.std.proofs.Common.{◌≡◌, ℕ, ◌+◌, ◌-◌, ◌/◌, ◌^◌, ◌<◌, ◌≤◌, List, [], ◌∷◌, get_or, min, sym, ap, ◌∙◌, subst, arith}
use Rattle.context_model.specs.Varints.{big_endian, unsigned_form, unsigned_tail, unsigned_varint, natural_form, natural_tail}
use Rattle.context_model.proofs.VarintLaws.{unsigned_first, natural_first, unsigned_tail-bound, unsigned_tail-room, natural_tail-bound, natural_tail-room}
use Rattle.context_model.proofs.VarintForms.{unsigned_byte, natural_byte}
use Rattle.lex_varint.proofs.Ones.{ones_at}

abbrev pub table : List ℕ
table = 0 ∷ 128 ∷ 192 ∷ 224 ∷ 240 ∷ 248 ∷ 252 ∷ 254 ∷ 255 ∷ []

pub unsigned_few : (k n : ℕ) → n < 2 ^ 64 → k ≡ unsigned_tail n → k ≤ 8
unsigned_few k n h e = omega (arith, unsigned_tail-bound n h)

pub unsigned_fits : (k n : ℕ) → n < 2 ^ 64 → k ≡ unsigned_tail n → get_or table k 0 + n / 256 ^ k < 256
unsigned_fits k n h e =
    let room : unsigned_first (unsigned_tail n) + n / 256 ^ unsigned_tail n < 256 = unsigned_byte (unsigned_tail n) n (unsigned_tail-bound n h) (unsigned_tail-room n h) in
    subst (λ v. v + n / 256 ^ k < 256) (sym (ones_at k (unsigned_few k n h e))) (subst (λ v. unsigned_first v + n / 256 ^ v < 256) (sym e) room)

pub unsigned_is : (k n : ℕ) → n < 2 ^ 64 → k ≡ unsigned_tail n → (get_or table k 0 + n / 256 ^ k) ∷ big_endian k n ≡ unsigned_varint n
unfolding unsigned_varint unsigned_form
unsigned_is k n h e = ap (λ v. (v + n / 256 ^ k) ∷ big_endian k n) (ones_at k (unsigned_few k n h e)) ∙ ap (λ v. (unsigned_first v + n / 256 ^ v) ∷ big_endian v n) e

pub natural_few : (k n : ℕ) → n < 2 ^ 64 → k ≡ natural_tail n → k ≤ 8
natural_few k n h e = omega (arith, natural_tail-bound n h)

-- one more one, but never more than eight
pub natural_at : (k : ℕ) → k ≤ 8 → get_or table (min (k + 1) 8) 0 ≡ natural_first k
natural_at k h = ones_at (min (k + 1) 8) (omega arith) ∙ ap (λ v. 256 - 2 ^ v) (less k h)
  where
    less : (v : ℕ) → v ≤ 8 → 8 - min (v + 1) 8 ≡ 7 - v
    less v h = omega arith

pub natural_fits : (k n : ℕ) → n < 2 ^ 64 → k ≡ natural_tail n → get_or table (min (k + 1) 8) 0 + n / 256 ^ k < 256
natural_fits k n h e =
    let room : natural_first (natural_tail n) + n / 256 ^ natural_tail n < 256 = natural_byte (natural_tail n) n (natural_tail-bound n h) (natural_tail-room n h) in
    subst (λ v. v + n / 256 ^ k < 256) (sym (natural_at k (natural_few k n h e))) (subst (λ v. natural_first v + n / 256 ^ v < 256) (sym e) room)

pub natural_is : (k n : ℕ) → n < 2 ^ 64 → k ≡ natural_tail n → (get_or table (min (k + 1) 8) 0 + n / 256 ^ k) ∷ big_endian k n ≡ natural_form (natural_tail n) n
unfolding natural_form
natural_is k n h e = ap (λ v. (v + n / 256 ^ k) ∷ big_endian k n) (natural_at k (natural_few k n h e)) ∙ ap (λ v. (natural_first v + n / 256 ^ v) ∷ big_endian v n) e
