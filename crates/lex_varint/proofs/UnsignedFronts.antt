-- At most one of the three answers fits the beginning of a byte string, and which one it gets.
use Rattle.std.proofs.Common.{◌≡◌, ℕ, ◌+◌, ◌-◌, ◌*◌, ◌/◌, ◌^◌, ◌<◌, ◌≤◌, ◌↔◌, List, [], ◌∷◌, ◌++◌, length, take, drop, Result, Ok, Err, sym, refl, ap, ap₂, ◌∙◌, subst, subst₂, arith, take-append-drop, le_trans, mul-le-mul_right, get_or}
use Rattle.std.specs.Int.{leading_ones, w8}
use Rattle.context_model.specs.Varints.{big_endian, unsigned_form, unsigned_tail, unsigned_varint}
use Rattle.context_model.proofs.VarintLaws.{unsigned_first, unsigned_room, unsigned_tail-most, unsigned_room-most}
use Rattle.context_model.proofs.VarintForms.{unsigned_part-back, length-unsigned_form}
use Rattle.lex_varint.specs.Readings.{BeginsWith, IsUnsignedAt, IsUnsignedCut, IsUnsignedLong}
use Rattle.lex_varint.specs.declared.VarintFault.{VarintFault}
use Rattle.lex_varint.specs.declared.VarintFault.TheVariants.{Cut, LongForm}
use Rattle.context_model.proofs.UnsignedFronts.{HasOnes, HasOnes-leading, Stands, Stands-unique, Stands-taken, Stands-long, Stands-uncut}
use Rattle.lex_varint.proofs.Ones.{ones_at}
use Rattle.lex_varint.proofs.Puts.{table}
use Rattle.std.proofs.lemmas.List.{length-take-le}

-- what the bytes make
pub Stands-made : (first : ℕ) (rest : List ℕ) (n : ℕ) → first < 256 → leading_ones w8 first ≤ length rest
    → big_endian (leading_ones w8 first) n ≡ take (leading_ones w8 first) rest → n / 256 ^ leading_ones w8 first ≡ first - unsigned_first (leading_ones w8 first)
    → Stands (first ∷ rest) (leading_ones w8 first) n
unfolding unsigned_form
Stands-made first rest n h l low high =
    let k : ℕ = leading_ones w8 first in
    let o : HasOnes first k = HasOnes-leading first h in
    let head : first ≡ unsigned_first k + n / 256 ^ k = omega (arith, o.low, high) in
    record {
      few = o.most;
      room = unsigned_part-back k n (omega (arith, o.high, o.low, high));
      front = (drop k rest, ap₂ (λ b bs. b ∷ bs) head (sym (take-append-drop k rest) ∙ ap (λ v. v ++ drop k rest) (sym low)));
    }

-- the same from what the code knows
pub byte_first : (bytes : List ℕ) (first : ℕ) (rest : List ℕ) → bytes ≡ first ∷ rest → get_or bytes 0 0 < 256 → first < 256
byte_first bytes first rest e h = subst (λ v. get_or v 0 0 < 256) e h

pub table_low : (first k : ℕ) → first < 256 → k ≡ leading_ones w8 first → get_or table k 0 ≤ first
table_low first k h e = let o : HasOnes first (leading_ones w8 first) = HasOnes-leading first h in
    subst (λ v. get_or table v 0 ≤ first) (sym e) (subst (λ v. v ≤ first) (sym (ones_at (leading_ones w8 first) o.most)) o.low)

pub table_room : (first k m : ℕ) → first < 256 → k ≡ leading_ones w8 first → m ≡ k → (first - get_or table k 0 + 1) * 256 ^ m ≤ 2 ^ 64
table_room first k m h e l =
    let o : HasOnes first (leading_ones w8 first) = HasOnes-leading first h in
    subst (λ v. (first - get_or table k 0 + 1) * 256 ^ v ≤ 2 ^ 64) (sym l)
    (subst (λ v. (first - get_or table v 0 + 1) * 256 ^ v ≤ 2 ^ 64) (sym e)
    (subst (λ v. (first - v + 1) * 256 ^ leading_ones w8 first ≤ 2 ^ 64) (sym (ones_at (leading_ones w8 first) o.most)) (by (leading_ones w8 first) o)))
  where
    by : (j : ℕ) → HasOnes first j → (first - unsigned_first j + 1) * 256 ^ j ≤ 2 ^ 64
    by j o =
        let few : first - unsigned_first j + 1 ≤ 2 ^ (7 - j) = omega (arith, o.low, o.high) in
        le_trans (mul-le-mul_right (256 ^ j) few) (unsigned_room-most j o.most)

pub Stands-read : (bytes : List ℕ) (first : ℕ) (rest : List ℕ) (k n : ℕ) → bytes ≡ first ∷ rest → first < 256 → k ≡ leading_ones w8 first → k ≤ length rest
    → big_endian (length (take k rest)) n ≡ take k rest → n / 256 ^ length (take k rest) ≡ first - get_or table k 0 → Stands bytes k n
Stands-read bytes first rest k n whole h e l low high =
    let o : HasOnes first (leading_ones w8 first) = HasOnes-leading first h in
    let count : length (take k rest) ≡ k = length-take-le k rest l in
    subst (λ v. Stands v k n) (sym whole) (subst (λ v. Stands (first ∷ rest) v n) (sym e)
    (Stands-made first rest n h (omega arith)
    (subst (λ v. big_endian v n ≡ take v rest) e (subst (λ v. big_endian v n ≡ take k rest) count low))
    (subst (λ v. n / 256 ^ v ≡ first - unsigned_first v) e
    (subst (λ v. n / 256 ^ v ≡ first - get_or table k 0) count high ∙ ap (λ v. first - v) (ones_at k (few o.most))))))
  where
    few : leading_ones w8 first ≤ 8 → k ≤ 8
    few h = omega arith

-- the three clauses of an answer
pub record Answers (bytes : List ℕ) (result : Result (ℕ × ℕ) VarintFault) : Type 0 where
  pub taken : (value count : ℕ) → (result ≡ Ok (value, count)) ↔ IsUnsignedAt bytes value count
  pub cut : (result ≡ Err Cut) ↔ IsUnsignedCut bytes
  pub long : (result ≡ Err LongForm) ↔ IsUnsignedLong bytes

pub answers_cut : (bytes : List ℕ) → IsUnsignedCut bytes → Answers bytes (Err Cut)
answers_cut bytes h = record {
  taken = λ v count. ((λ e. cc), λ t. absurd (Stands-uncut bytes (unsigned_tail v) v (Stands-taken bytes v count t) h));
  cut = ((λ e. h), λ c. refl);
  long = ((λ e. cc), λ f. absurd (Stands-uncut bytes f.tail f.value (Stands-long bytes f) h));
}

pub answers_long : (bytes : List ℕ) (k n : ℕ) → Stands bytes k n → unsigned_tail n < k → Answers bytes (Err LongForm)
answers_long bytes k n f l = record {
  taken = λ v count. (
    (λ e. cc),
    λ t.
        let same : (k ≡ unsigned_tail v) × (n ≡ v) = Stands-unique bytes k (unsigned_tail v) n v f (Stands-taken bytes v count t) in
        let tails : unsigned_tail n ≡ unsigned_tail v = ap unsigned_tail same.1 in
        absurd (omega (arith, same.0)),
  );
  cut = ((λ e. cc), λ c. absurd (Stands-uncut bytes k n f c));
  long = ((λ e. record { tail = k; value = n; room = f.few; longer = l; front = f.front }), λ c. refl);
}

parts : (a b c d : ℕ) → (let r : Result (ℕ × ℕ) VarintFault = Ok (a, b) in r ≡ Ok (c, d)) → (a ≡ c) × (b ≡ d)
parts a b c d e = let p : ◌≡◌ {A = ℕ × ℕ} (a, b) (c, d) = cc in (ap (λ x. x.0) p, ap (λ x. x.1) p)

taken_at : (bytes : List ℕ) (k n : ℕ) → Stands bytes k n → unsigned_tail n ≡ k → IsUnsignedAt bytes n (k + 1)
unfolding unsigned_varint
taken_at bytes k n f e =
    let most : unsigned_room k ≤ 2 ^ 64 = unsigned_room-most k f.few in
    record {
      fits = omega (arith, f.room);
      front = subst (λ v. BeginsWith bytes (unsigned_form v n)) (sym e) f.front;
      whole = sym (length-unsigned_form (unsigned_tail n) n ∙ ap (λ v. v + 1) e);
    }

count_at : (v count : ℕ) (bytes : List ℕ) → IsUnsignedAt bytes v count → unsigned_tail v + 1 ≡ count
unfolding unsigned_varint
count_at v count bytes t = sym (length-unsigned_form (unsigned_tail v) v) ∙ sym t.whole

pub answers_taken : (bytes : List ℕ) (k n : ℕ) → Stands bytes k n → k ≤ unsigned_tail n → Answers bytes (Ok (n, k + 1))
answers_taken bytes k n f l = record {
  taken = λ v count. (
    (λ e. let p : (n ≡ v) × (k + 1 ≡ count) = parts n (k + 1) v count e in subst₂ (λ x y. IsUnsignedAt bytes x y) p.0 p.1 (taken_at bytes k n f own)),
    λ t.
        let same : (k ≡ unsigned_tail v) × (n ≡ v) = Stands-unique bytes k (unsigned_tail v) n v f (Stands-taken bytes v count t) in
        λ i. Ok (same.1 i, (ap (λ x. x + 1) same.0 ∙ count_at v count bytes t) i),
  );
  cut = ((λ e. cc), λ c. absurd (Stands-uncut bytes k n f c));
  long = (
    (λ e. cc),
    λ c.
        let same : (k ≡ c.tail) × (n ≡ c.value) = Stands-unique bytes k c.tail n c.value f (Stands-long bytes c) in
        let tails : unsigned_tail n ≡ unsigned_tail c.value = ap unsigned_tail same.1 in
        absurd (omega (arith, same.0, c.longer)),
  );
}
  where
    own : unsigned_tail n ≡ k
    own = let most : unsigned_tail n ≤ k = unsigned_tail-most k n f.few f.room in omega arith

pub empty_cut : (bytes : List ℕ) → length bytes ≡ 0 → IsUnsignedCut bytes
empty_cut [] h = tt
empty_cut (b ∷ bytes) h = absurd (omega arith)

pub short_cut : (bytes : List ℕ) (first : ℕ) (rest : List ℕ) (k : ℕ) → bytes ≡ first ∷ rest → k ≡ leading_ones w8 first → length rest < k → IsUnsignedCut bytes
short_cut bytes first rest k whole e h = subst (λ v. IsUnsignedCut v) (sym whole) (omega arith)
