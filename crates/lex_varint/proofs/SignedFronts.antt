-- At most one of the four answers fits the beginning of a byte string, and which one it gets.
use Rattle.std.proofs.Common.{◌≡◌, ℕ, ℤ, pos, negsuc, zero, suc, ◌+◌, ◌-◌, ◌*◌, ◌/◌, ◌%◌, ◌^◌, ◌<◌, ◌≤◌, ◌↔◌, Bool, true, false, cond, ltb, List, [], ◌∷◌, ◌++◌, length, take, drop, get_or, min, Result, Ok, Err, FitsSigned, w64, sym, refl, ap, ap₂, ◌∙◌, subst, subst₂, arith, inl, inr, ◌⊎◌, lit<, take-append-drop, length-append, le_trans, mul-le-mul_right, lt-ltb, le-ltb}
use Rattle.std.proofs.lemmas.Bool.{cases_lt, cases_order, ltb-true, ltb-false}
use Rattle.std.proofs.lemmas.Nat.{mod_below}
use Rattle.std.proofs.lemmas.List.{length-take-le, map-append, length-map}
use Rattle.context_model.specs.Varints.{big_endian, natural_form, natural_tail, complement, signed_form, signed_tail, signed_varint}
use Rattle.context_model.proofs.Digits.{length-big_endian}
use Rattle.context_model.proofs.VarintLaws.{natural_first, natural_room, natural_tail-most, natural_tail-length, natural_tail-room, natural_tail-below, natural_tail-le, natural_tail-whole, natural_room-most, natural_bytes, powers, wide}
use Rattle.context_model.proofs.VarintForms.{natural_part, natural_part-back, natural_byte, natural_rises-lengths, natural_form-unique, length-natural_form, length_bound}
use Rattle.lex_varint.specs.Readings.{BeginsWith, IsSignedAt, IsSignedCut, IsSignedLong, IsSignedOut, natural_demand, turned, with_sign}
use Rattle.lex_varint.specs.declared.VarintFault.{VarintFault}
use Rattle.lex_varint.specs.declared.VarintFault.TheVariants.{Cut, LongForm, OutOfRange}
use Rattle.lex_varint.proofs.Ones.{HasNaturalOnes, HasNaturalOnes-follows}
use Rattle.lex_varint.proofs.Puts.{table, natural_at}

-- ---- numbers from 0 on

record NaturalStands (bytes : List ℕ) (k n : ℕ) : Type 0 where
  few : (k < 7) ⊎ (k ≡ 8)
  room : n < natural_room k
  front : BeginsWith bytes (natural_form k n)

NaturalStands-unique : (bytes : List ℕ) (j k m n : ℕ) → NaturalStands bytes j m → NaturalStands bytes k n → (j ≡ k) × (m ≡ n)
NaturalStands-unique bytes j k m n f g = natural_form-unique j k m n f.front.0 g.front.0 f.few g.few f.room g.room (sym f.front.1 ∙ g.front.1)

HasNaturalOnes-unique : (b j k : ℕ) → HasNaturalOnes b j → HasNaturalOnes b k → j ≡ k
HasNaturalOnes-unique b j k f g = elim (cases_order j k) [
  | inl e ↦ e
  | inr (inl less) ↦ let rise : natural_first j + 2 ^ (6 - j) ≤ natural_first k = natural_rises-lengths j k f.most g.most less in absurd (omega (arith, f.high, g.low))
  | inr (inr less) ↦ let rise : natural_first k + 2 ^ (6 - k) ≤ natural_first j = natural_rises-lengths k j g.most f.most less in absurd (omega (arith, f.low, g.high))
]

-- the first byte of a number from 0 on, and what follows it
NaturalStands-first : (first : ℕ) (rest : List ℕ) (k n : ℕ) → NaturalStands (first ∷ rest) k n → (128 ≤ first) × (first < 256) × (natural_demand first ≡ k) × (k ≤ length rest)
unfolding natural_form
NaturalStands-first first rest k n f =
    let head : first ≡ natural_first k + n / 256 ^ k = cc (f.front.1) in
    let tails : rest ≡ big_endian k n ++ f.front.0 = cc (f.front.1) in
    let part : n / 256 ^ k < 2 ^ (6 - k) = natural_part k n f.room in
    let most : 2 ^ (7 - k) ≤ 2 ^ 7 = powers (7 - k) 7 (omega arith) in
    let bytes : natural_first k + 2 ^ (6 - k) ≤ 256 = natural_bytes k (length_bound k f.few) in
    let top : 128 ≤ first = omega arith in
    let byte : first < 256 = omega arith in (
      top,
      byte,
      HasNaturalOnes-unique first (natural_demand first) k (HasNaturalOnes-follows first byte top) (record { most = f.few; low = omega arith; high = omega arith }),
      omega (arith, ap length tails, length-append (big_endian k n) f.front.0, length-big_endian k n),
    )

NaturalStands-made : (first : ℕ) (rest : List ℕ) (n : ℕ) → first < 256 → 128 ≤ first → natural_demand first ≤ length rest
    → big_endian (natural_demand first) n ≡ take (natural_demand first) rest → n / 256 ^ natural_demand first ≡ first - natural_first (natural_demand first)
    → NaturalStands (first ∷ rest) (natural_demand first) n
unfolding natural_form
NaturalStands-made first rest n h top l low high =
    let k : ℕ = natural_demand first in
    let o : HasNaturalOnes first k = HasNaturalOnes-follows first h top in
    let head : first ≡ natural_first k + n / 256 ^ k = omega (arith, o.low, high) in
    record {
      few = o.most;
      room = natural_part-back k n (omega (arith, o.high, o.low, high));
      front = (drop k rest, ap₂ (λ b bs. b ∷ bs) head (sym (take-append-drop k rest) ∙ ap (λ v. v ++ drop k rest) (sym low)));
    }

-- ---- with a sign

abbrev pub size : ℤ → ℕ
size (pos n) = n
size (negsuc n) = n

abbrev is_negative : ℤ → Bool
is_negative (pos n) = false
is_negative (negsuc n) = true

complement-twice : (bytes : List ℕ) → ((i : ℕ) → get_or bytes i 0 < 256) → complement (complement bytes) ≡ bytes
unfolding complement
complement-twice [] h = refl
complement-twice (b ∷ bytes) h = λ i. back (h 0) i ∷ complement-twice bytes (λ j. h (suc j)) i
  where
    back : b < 256 → 255 - (255 - b) ≡ b
    back l = omega arith

digits_back : (w n : ℕ) → complement (complement (big_endian w n)) ≡ big_endian w n
unfolding complement
digits_back zero n = refl
digits_back (suc w) n = λ i. back (n / 256 ^ w % 256) (mod_below (n / 256 ^ w) 256 (lit< tt)) i ∷ digits_back w n i
  where
    back : (b : ℕ) → b < 256 → 255 - (255 - b) ≡ b
    back b l = omega arith

form_back : (k n : ℕ) → k ≤ 8 → n < natural_room k → complement (complement (natural_form k n)) ≡ natural_form k n
unfolding natural_form complement
form_back k n h l = λ i. back (natural_first k + n / 256 ^ k) (natural_byte k n h l) i ∷ digits_back k n i
  where
    back : (b : ℕ) → b < 256 → 255 - (255 - b) ≡ b
    back b l = omega arith

pub record Stands (bytes : List ℕ) (k : ℕ) (z : ℤ) : Type 0 where
  pub few : (k < 7) ⊎ (k ≡ 8)
  pub room : size z < natural_room k
  pub front : BeginsWith bytes (signed_form k z)

complement-append : (xs ys : List ℕ) → complement (xs ++ ys) ≡ complement xs ++ complement ys
unfolding complement
complement-append xs ys = map-append (λ b. 255 - b) xs ys

-- the same bytes with their bits turned back hold the number without its sign
Stands-turned : (bytes : List ℕ) (k : ℕ) (z : ℤ) → Stands bytes k z → NaturalStands (turned (is_negative z) bytes) k (size z)
unfolding signed_form
Stands-turned bytes k (pos n) f = record { few = f.few; room = f.room; front = f.front }
Stands-turned bytes k (negsuc n) f = record { few = f.few; room = f.room; front = (complement f.front.0, front) }
  where
    front : complement bytes ≡ natural_form k n ++ complement f.front.0
    front = ap complement (f.front.1) ∙ complement-append (complement (natural_form k n)) f.front.0 ∙ ap (λ v. v ++ complement f.front.0) (form_back k n (length_bound k f.few) f.room)

-- whether the first byte says that the number is negative
abbrev tells_negative : List ℕ → Bool
tells_negative [] = false
tells_negative (first ∷ rest) = ltb first 128

NaturalStands-some : (k n : ℕ) → NaturalStands [] k n → ⊥
NaturalStands-some k n f = omega (arith, ap length (f.front.1), length-append (natural_form k n) f.front.0, length-natural_form k n)

Stands-sign : (bytes : List ℕ) (k : ℕ) (z : ℤ) → Stands bytes k z → tells_negative bytes ≡ is_negative z
unfolding complement
Stands-sign [] k (pos n) f = absurd (NaturalStands-some k n (Stands-turned [] k (pos n) f))
Stands-sign [] k (negsuc n) f = absurd (NaturalStands-some k n (Stands-turned [] k (negsuc n) f))
Stands-sign (first ∷ rest) k (pos n) f = le-ltb first 128 (NaturalStands-first first rest k n (Stands-turned (first ∷ rest) k (pos n) f)).0
Stands-sign (first ∷ rest) k (negsuc n) f =
    lt-ltb first 128 (let high : 128 ≤ 255 - first = (NaturalStands-first (255 - first) (complement rest) k n (Stands-turned (first ∷ rest) k (negsuc n) f)).0 in omega arith)

pub Stands-unique : (bytes : List ℕ) (j k : ℕ) (y z : ℤ) → Stands bytes j y → Stands bytes k z → (j ≡ k) × (y ≡ z)
Stands-unique bytes j k y z f g = by y z f g (sym (Stands-sign bytes j y f) ∙ Stands-sign bytes k z g)
  where
    by : (y z : ℤ) → Stands bytes j y → Stands bytes k z → is_negative y ≡ is_negative z → (j ≡ k) × (y ≡ z)
    by (pos m) (pos n) f g e = let s : (j ≡ k) × (m ≡ n) = NaturalStands-unique bytes j k m n (Stands-turned bytes j (pos m) f) (Stands-turned bytes k (pos n) g) in (s.0, ap pos s.1)
    by (negsuc m) (negsuc n) f g e = let s : (j ≡ k) × (m ≡ n) = NaturalStands-unique (complement bytes) j k m n (Stands-turned bytes j (negsuc m) f) (Stands-turned bytes k (negsuc n) g) in (s.0, ap negsuc s.1)
    by (pos m) (negsuc n) f g e = cc
    by (negsuc m) (pos n) f g e = cc

Stands-from : (bytes : List ℕ) (negative : Bool) (k n : ℕ) → ((i : ℕ) → get_or bytes i 0 < 256) → NaturalStands (turned negative bytes) k n → Stands bytes k (with_sign negative n)
unfolding signed_form
Stands-from bytes false k n h f = record { few = f.few; room = f.room; front = f.front }
Stands-from bytes true k n h f = record {
  few = f.few;
  room = f.room;
  front = (complement f.front.0, sym (complement-twice bytes h) ∙ ap complement (f.front.1) ∙ complement-append (natural_form k n) f.front.0);
}

-- ---- the four answers

tail_of : (z : ℤ) → signed_tail z ≡ natural_tail (size z)
unfolding signed_tail
tail_of (pos n) = refl
tail_of (negsuc n) = refl

Stands-taken : (bytes : List ℕ) (z : ℤ) (count : ℕ) → IsSignedAt bytes z count → Stands bytes (signed_tail z) z
unfolding signed_varint signed_tail
Stands-taken bytes (pos n) count t =
    record { few = natural_tail-length n (wide n t.fits.sfits); room = natural_tail-room n (wide n t.fits.sfits); front = t.front }
Stands-taken bytes (negsuc n) count t =
    record { few = natural_tail-length n (wide n t.fits.sfits); room = natural_tail-room n (wide n t.fits.sfits); front = t.front }

Stands-long : (bytes : List ℕ) → (f : IsSignedLong bytes) → Stands bytes f.tail f.value
Stands-long bytes f = record {
  few = f.room;
  room = natural_tail-below f.tail (size f.value) (length_bound f.tail f.room) (subst (λ v. v < f.tail) (tail_of f.value) f.longer);
  front = f.front;
}

Stands-out : (bytes : List ℕ) → (f : IsSignedOut bytes) → (z : ℤ) × Stands bytes 8 z × (size z ≡ f.number)
Stands-out bytes f = by f.front
  where
    by : BeginsWith bytes (signed_form 8 (pos f.number)) ⊎ BeginsWith bytes (signed_form 8 (negsuc f.number)) → (z : ℤ) × Stands bytes 8 z × (size z ≡ f.number)
    by (inl h) = (pos f.number, record { few = inr refl; room = f.eight; front = h }, refl)
    by (inr h) = (negsuc f.number, record { few = inr refl; room = f.eight; front = h }, refl)

Stands-uncut : (bytes : List ℕ) (k : ℕ) (z : ℤ) → Stands bytes k z → IsSignedCut bytes → ⊥
unfolding complement
Stands-uncut [] k (pos n) f cut = NaturalStands-some k n (Stands-turned [] k (pos n) f)
Stands-uncut [] k (negsuc n) f cut = NaturalStands-some k n (Stands-turned [] k (negsuc n) f)
Stands-uncut (first ∷ rest) k (pos n) f cut =
    let s : (128 ≤ first) × (first < 256) × (natural_demand first ≡ k) × (k ≤ length rest) = NaturalStands-first first rest k n (Stands-turned (first ∷ rest) k (pos n) f) in
    let short : length rest < natural_demand first = subst (λ b. length rest < natural_demand (cond b (255 - first) first)) (le-ltb first 128 s.0) cut in
    omega (arith, s.2, s.3)
Stands-uncut (first ∷ rest) k (negsuc n) f cut =
    let s : (128 ≤ 255 - first) × (255 - first < 256) × (natural_demand (255 - first) ≡ k) × (k ≤ length (complement rest)) =
    NaturalStands-first (255 - first) (complement rest) k n (Stands-turned (first ∷ rest) k (negsuc n) f) in
    let short : length rest < natural_demand (255 - first) = subst (λ b. length rest < natural_demand (cond b (255 - first) first)) (lt-ltb first 128 (omega (arith, s.0))) cut in
    omega (arith, s.2, s.3, length-map rest (λ b. 255 - b))

-- the four clauses of an answer
pub record Answers (bytes : List ℕ) (result : Result (ℤ × ℕ) VarintFault) : Type 0 where
  pub taken : (value : ℤ) (count : ℕ) → (result ≡ Ok (value, count)) ↔ IsSignedAt bytes value count
  pub cut : (result ≡ Err Cut) ↔ IsSignedCut bytes
  pub long : (result ≡ Err LongForm) ↔ IsSignedLong bytes
  pub out : (result ≡ Err OutOfRange) ↔ IsSignedOut bytes

pub answers_cut : (bytes : List ℕ) → IsSignedCut bytes → Answers bytes (Err Cut)
answers_cut bytes h = record {
  taken = λ v count. ((λ e. cc), λ t. absurd (Stands-uncut bytes (signed_tail v) v (Stands-taken bytes v count t) h));
  cut = ((λ e. h), λ c. refl);
  long = ((λ e. cc), λ f. absurd (Stands-uncut bytes f.tail f.value (Stands-long bytes f) h));
  out = ((λ e. cc), λ f. let s : (z : ℤ) × Stands bytes 8 z × (size z ≡ f.number) = Stands-out bytes f in absurd (Stands-uncut bytes 8 s.0 s.1 h));
}

-- a number that is out of range has no shorter form
out_tail : (n : ℕ) → 2 ^ 63 ≤ n → 8 ≤ natural_tail n
out_tail n h = let more : natural_tail (2 ^ 48) ≤ natural_tail n = natural_tail-le (2 ^ 48) n (omega arith) in let e : natural_tail (2 ^ 48) ≡ 8 = natural_tail-whole in omega arith

pub answers_long : (bytes : List ℕ) (k : ℕ) (z : ℤ) → Stands bytes k z → natural_tail (size z) < k → Answers bytes (Err LongForm)
answers_long bytes k z f l = record {
  taken = λ v count. (
    (λ e. cc),
    λ t.
        let same : (k ≡ signed_tail v) × (z ≡ v) = Stands-unique bytes k (signed_tail v) z v f (Stands-taken bytes v count t) in
        let tails : signed_tail z ≡ signed_tail v = ap signed_tail same.1 in
        absurd (omega (arith, same.0, tail_of z)),
  );
  cut = ((λ e. cc), λ c. absurd (Stands-uncut bytes k z f c));
  long = ((λ e. record { tail = k; value = z; room = f.few; longer = omega (arith, tail_of z); front = f.front }), λ c. refl);
  out = ((λ e. cc), λ c. absurd (no c));
}
  where
    no : IsSignedOut bytes → ⊥
    no c =
        let s : (y : ℤ) × Stands bytes 8 y × (size y ≡ c.number) = Stands-out bytes c in
        let same : (k ≡ 8) × (z ≡ s.0) = Stands-unique bytes k 8 z s.0 f s.1 in
        let sizes : size z ≡ c.number = ap size same.1 ∙ s.2 in
        omega (arith, same.0, c.beyond, out_tail (size z) (omega (arith, c.beyond)))

parts : (a c : ℤ) (b d : ℕ) → (let r : Result (ℤ × ℕ) VarintFault = Ok (a, b) in r ≡ Ok (c, d)) → (a ≡ c) × (b ≡ d)
parts a c b d e = let p : ◌≡◌ {A = ℤ × ℕ} (a, b) (c, d) = cc in (ap (λ x. x.0) p, ap (λ x. x.1) p)

length-signed : (z : ℤ) → length (signed_varint z) ≡ signed_tail z + 1
unfolding signed_varint signed_form signed_tail complement
length-signed (pos n) = length-natural_form (natural_tail n) n
length-signed (negsuc n) = length-map (natural_form (natural_tail n) n) (λ b. 255 - b) ∙ length-natural_form (natural_tail n) n

fits_from : (z : ℤ) → size z < 2 ^ 63 → FitsSigned w64 z
fits_from (pos n) h = record { sfits = h }
fits_from (negsuc n) h = record { sfits = h }

small_from : (z : ℤ) → FitsSigned w64 z → size z < 2 ^ 63
small_from (pos n) h = h.sfits
small_from (negsuc n) h = h.sfits

taken_at : (bytes : List ℕ) (k : ℕ) (z : ℤ) → Stands bytes k z → signed_tail z ≡ k → size z < 2 ^ 63 → IsSignedAt bytes z (k + 1)
unfolding signed_varint
taken_at bytes k z f e h =
    record {
      fits = fits_from z h;
      front = subst (λ v. BeginsWith bytes (signed_form v z)) (sym e) f.front;
      whole = sym (length-signed z ∙ ap (λ v. v + 1) e);
    }

shortest : (bytes : List ℕ) (k : ℕ) (z : ℤ) → Stands bytes k z → k ≤ natural_tail (size z) → signed_tail z ≡ k
shortest bytes k z f l = by f.few
  where
    most : (k ≡ 7 → ⊥) → natural_tail (size z) ≤ k
    most n = natural_tail-most k (size z) (length_bound k f.few) n f.room

    by : (k < 7) ⊎ (k ≡ 8) → signed_tail z ≡ k
    by (inl h) = omega (arith, tail_of z, most (λ e. omega arith))
    by (inr h) = omega (arith, tail_of z, most (λ e. omega arith))

pub answers_taken : (bytes : List ℕ) (k : ℕ) (z : ℤ) → Stands bytes k z → k ≤ natural_tail (size z) → size z < 2 ^ 63 → Answers bytes (Ok (z, k + 1))
answers_taken bytes k z f l h = record {
  taken = λ v count. (
    (λ e. let p : (z ≡ v) × (k + 1 ≡ count) = parts z v (k + 1) count e in subst₂ (λ x y. IsSignedAt bytes x y) p.0 p.1 (taken_at bytes k z f own h)),
    λ t.
        let same : (k ≡ signed_tail v) × (z ≡ v) = Stands-unique bytes k (signed_tail v) z v f (Stands-taken bytes v count t) in
        λ i. Ok (same.1 i, (ap (λ x. x + 1) same.0 ∙ sym (length-signed v) ∙ sym t.whole) i),
  );
  cut = ((λ e. cc), λ c. absurd (Stands-uncut bytes k z f c));
  long = (
    (λ e. cc),
    λ c.
        let same : (k ≡ c.tail) × (z ≡ c.value) = Stands-unique bytes k c.tail z c.value f (Stands-long bytes c) in
        let tails : signed_tail z ≡ signed_tail c.value = ap signed_tail same.1 in
        absurd (omega (arith, same.0, c.longer, own)),
  );
  out = ((λ e. cc), λ c. absurd (no c));
}
  where
    own : signed_tail z ≡ k
    own = shortest bytes k z f l

    no : IsSignedOut bytes → ⊥
    no c =
        let s : (y : ℤ) × Stands bytes 8 y × (size y ≡ c.number) = Stands-out bytes c in
        let same : (k ≡ 8) × (z ≡ s.0) = Stands-unique bytes k 8 z s.0 f s.1 in
        let sizes : size z ≡ c.number = ap size same.1 ∙ s.2 in
        omega (arith, c.beyond)

pub answers_out : (bytes : List ℕ) (k : ℕ) (z : ℤ) → Stands bytes k z → k ≤ natural_tail (size z) → 2 ^ 63 ≤ size z → Answers bytes (Err OutOfRange)
answers_out bytes k z f l h = record {
  taken = λ v count. (
    (λ e. cc),
    λ t.
        let same : (k ≡ signed_tail v) × (z ≡ v) = Stands-unique bytes k (signed_tail v) z v f (Stands-taken bytes v count t) in
        let sizes : size z ≡ size v = ap size same.1 in
        absurd (omega (arith, small_from v t.fits)),
  );
  cut = ((λ e. cc), λ c. absurd (Stands-uncut bytes k z f c));
  long = (
    (λ e. cc),
    λ c.
        let same : (k ≡ c.tail) × (z ≡ c.value) = Stands-unique bytes k c.tail z c.value f (Stands-long bytes c) in
        let tails : signed_tail z ≡ signed_tail c.value = ap signed_tail same.1 in
        absurd (omega (arith, same.0, c.longer, own)),
  );
  out = ((λ e. out_at z f h), λ c. refl);
}
  where
    own : signed_tail z ≡ k
    own = shortest bytes k z f l

    eight : k ≡ 8
    eight = omega (arith, own, tail_of z, out_tail (size z) h, length_bound k f.few)

    out_at : (y : ℤ) → Stands bytes k y → 2 ^ 63 ≤ size y → IsSignedOut bytes
    out_at (pos n) g o = record { number = n; eight = omega (arith, g.room, natural_room-most k (length_bound k f.few)); beyond = o; front = inl (subst (λ v. BeginsWith bytes (signed_form v (pos n))) eight g.front) }
    out_at (negsuc n) g o = record { number = n; eight = omega (arith, g.room, natural_room-most k (length_bound k f.few)); beyond = o; front = inr (subst (λ v. BeginsWith bytes (signed_form v (negsuc n))) eight g.front) }

-- ---- from what the code knows

length-turned : (negative : Bool) (bytes : List ℕ) → length (turned negative bytes) ≡ length bytes
unfolding complement
length-turned true bytes = length-map bytes (λ b. 255 - b)
length-turned false bytes = refl

take-turned : (negative : Bool) (k : ℕ) (bytes : List ℕ) → take k (turned negative bytes) ≡ turned negative (take k bytes)
unfolding complement
take-turned true zero bytes = refl
take-turned true (suc k) [] = refl
take-turned true (suc k) (b ∷ bytes) = ap (λ v. (255 - b) ∷ v) (take-turned true k bytes)
take-turned false k bytes = refl

turned-cons : (negative : Bool) (first : ℕ) (rest : List ℕ) → turned negative (first ∷ rest) ≡ cond negative (255 - first) first ∷ turned negative rest
unfolding complement
turned-cons true first rest = refl
turned-cons false first rest = refl

-- the first byte with its sign taken away
pub high_first : (first other : ℕ) (negative : Bool) → first < 256 → negative ≡ ltb first 128 → other ≡ cond negative (255 - first) first → (128 ≤ other) × (other < 256)
high_first first other true h e o = let low : first < 128 = ltb-true first 128 (sym e) in (omega arith, omega arith)
high_first first other false h e o = let high : 128 ≤ first = ltb-false first 128 (sym e) in (omega arith, omega arith)

pub table_low : (first k : ℕ) → first < 256 → 128 ≤ first → k ≡ natural_demand first → get_or table (min (k + 1) 8) 0 ≤ first
table_low first k h l e =
    let o : HasNaturalOnes first k = subst (λ v. HasNaturalOnes first v) (sym e) (HasNaturalOnes-follows first h l) in
    subst (λ v. v ≤ first) (sym (natural_at k (length_bound k o.most))) o.low

pub table_room : (first k m : ℕ) → first < 256 → 128 ≤ first → k ≡ natural_demand first → m ≡ k → (first - get_or table (min (k + 1) 8) 0 + 1) * 256 ^ m ≤ 2 ^ 64
table_room first k m h l e n =
    let o : HasNaturalOnes first k = subst (λ v. HasNaturalOnes first v) (sym e) (HasNaturalOnes-follows first h l) in
    let few : first - natural_first k + 1 ≤ 2 ^ (6 - k) = omega (arith, o.low, o.high) in
    let all : (first - natural_first k + 1) * 256 ^ k ≤ 2 ^ 64 = le_trans (mul-le-mul_right (256 ^ k) few) (natural_room-most k (length_bound k o.most)) in
    subst (λ v. (first - get_or table (min (k + 1) 8) 0 + 1) * 256 ^ v ≤ 2 ^ 64) (sym n)
    (subst (λ v. (first - v + 1) * 256 ^ k ≤ 2 ^ 64) (sym (natural_at k (length_bound k o.most))) all)

pub Stands-read : (bytes : List ℕ) (first : ℕ) (rest : List ℕ) (negative : Bool) (other k n : ℕ) → bytes ≡ first ∷ rest → ((i : ℕ) → get_or bytes i 0 < 256)
    → negative ≡ ltb first 128 → other ≡ cond negative (255 - first) first → k ≡ natural_demand other → k ≤ length rest
    → big_endian (length (take k rest)) n ≡ turned negative (take k rest) → n / 256 ^ length (take k rest) ≡ other - get_or table (min (k + 1) 8) 0
    → Stands bytes k (with_sign negative n)
Stands-read bytes first rest negative other k n whole small sign turn e l low high =
    Stands-from bytes negative k n small (subst (λ v. NaturalStands (turned negative v) k n) (sym whole) (subst (λ v. NaturalStands v k n) (sym list) (subst (λ v. NaturalStands (other ∷ turned negative rest) v n) (sym e) made)))
  where
    byte : first < 256
    byte = subst (λ v. get_or v 0 0 < 256) whole (small 0)

    bounds : (128 ≤ other) × (other < 256)
    bounds = high_first first other negative byte sign turn

    list : turned negative (first ∷ rest) ≡ other ∷ turned negative rest
    list = turned-cons negative first rest ∙ ap (λ v. v ∷ turned negative rest) (sym turn)

    count : length (take k rest) ≡ k
    count = length-take-le k rest l

    lengths : (k < 7) ⊎ (k ≡ 8)
    lengths = subst (λ v. (v < 7) ⊎ (v ≡ 8)) (sym e) (HasNaturalOnes-follows other bounds.1 bounds.0).most

    made : NaturalStands (other ∷ turned negative rest) (natural_demand other) n
    made = NaturalStands-made other (turned negative rest) n bounds.1 bounds.0 (omega (arith, length-turned negative rest))
        (subst (λ v. big_endian v n ≡ take v (turned negative rest)) e (subst (λ v. big_endian v n ≡ turned negative (take k rest)) count low ∙ sym (take-turned negative k rest)))
        (subst (λ v. n / 256 ^ v ≡ other - natural_first v) e (subst (λ v. n / 256 ^ v ≡ other - get_or table (min (k + 1) 8) 0) count high ∙ ap (λ v. other - v) (natural_at k (length_bound k lengths))))

pub empty_cut : (bytes : List ℕ) → length bytes ≡ 0 → IsSignedCut bytes
empty_cut [] h = tt
empty_cut (b ∷ bytes) h = absurd (omega arith)

pub short_cut : (bytes : List ℕ) (first : ℕ) (rest : List ℕ) (negative : Bool) (other k : ℕ) → bytes ≡ first ∷ rest → negative ≡ ltb first 128 → other ≡ cond negative (255 - first) first
    → k ≡ natural_demand other → length rest < k → IsSignedCut bytes
short_cut bytes first rest negative other k whole sign turn e h =
    subst (λ v. IsSignedCut v) (sym whole) (subst (λ v. length rest < v) (e ∙ ap natural_demand (turn ∙ ap (λ b. cond b (255 - first) first) sign)) h)

size_with : (negative : Bool) (n : ℕ) → n ≡ size (with_sign negative n)
size_with true n = refl
size_with false n = refl

pub long_at : (bytes : List ℕ) (negative : Bool) (k n : ℕ) → Stands bytes k (with_sign negative n) → natural_tail n < k → Answers bytes (Err LongForm)
long_at bytes negative k n s h = answers_long bytes k (with_sign negative n) s (subst (λ v. natural_tail v < k) (size_with negative n) h)

pub out_at : (bytes : List ℕ) (negative : Bool) (k n : ℕ) → Stands bytes k (with_sign negative n) → k ≤ natural_tail n → (FitsSigned w64 (pos n) → ⊥) → Answers bytes (Err OutOfRange)
out_at bytes negative k n s h u =
    answers_out bytes k (with_sign negative n) s (subst (λ v. k ≤ natural_tail v) (size_with negative n) h) (subst (λ v. 2 ^ 63 ≤ v) (size_with negative n) (beyond (cases_lt n (2 ^ 63))))
  where
    beyond : (n < 2 ^ 63) ⊎ (2 ^ 63 ≤ n) → 2 ^ 63 ≤ n
    beyond (inl l) = absurd (u (record { sfits = l }))
    beyond (inr l) = l

pub taken_from : (bytes : List ℕ) (negative : Bool) (k n : ℕ) (z : ℤ) → Stands bytes k (with_sign negative n) → k ≤ natural_tail n → FitsSigned w64 (pos n) → z ≡ with_sign negative n → Answers bytes (Ok (z, k + 1))
taken_from bytes negative k n z s h f e =
    subst (λ v. Answers bytes (Ok (v, k + 1))) (sym e)
    (answers_taken bytes k (with_sign negative n) s (subst (λ v. k ≤ natural_tail v) (size_with negative n) h) (subst (λ v. v < 2 ^ 63) (size_with negative n) f.sfits))

pub fits_with : (negative : Bool) (n : ℕ) → FitsSigned w64 (pos n) → FitsSigned w64 (with_sign negative n)
fits_with true n f = record { sfits = f.sfits }
fits_with false n f = f
