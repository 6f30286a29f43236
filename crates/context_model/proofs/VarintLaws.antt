-- The laws of varints: which number has which length, and the order of codes whatever follows them, from which it
-- follows that no code begins another and that each number has one code.
use Rattle.std.proofs.Common.{◌≡◌, ℕ, zero, suc, ◌+◌, ◌-◌, ◌*◌, ◌/◌, ◌^◌, ◌<◌, ◌≤◌, List, [], ◌∷◌, ◌++◌, map, cond, nat_le, count_by, Ordering, Less, Equal, Greater, nat_cmp, sym, refl, ap, ◌∙◌, subst, arith, inl, inr, ◌⊎◌, lit<, lit≤, ℤ, pos, negsuc, int_cmp, FitsSigned, w64, subst₂}
use Rattle.std.proofs.Math.Nat.{div-lt_iff_lt-mul, pow-le-pow_right, pow-suc}
use Rattle.std.proofs.lemmas.List.{map-id}
use Rattle.std.proofs.lemmas.List.Sums.{sum_by-le-sum_by}
use Rattle.std.proofs.lemmas.Bool.{cases_lt, cases_order}
use Rattle.std.proofs.lemmas.Bool.Decides.{nat_tests}
use Rattle.std.specs.Ordering.{ordering_then, ordering_reverse, MatchOrdering}
use Rattle.std.specs.Cmp.{ranks, nat_cmp_is}
use Rattle.std.specs.Cmp.Lexicographic.{slice_cmp}
use Rattle.std.proofs.lemmas.Cmp.{tied_itself, nat_list_cmp_total}
use Rattle.std.specs.FinMap.{nat_cmp-IsAntisymmetric, int_cmp-IsAntisymmetric}
use Rattle.context_model.specs.Varints.{big_endian, unsigned_form, unsigned_tail, unsigned_varint, natural_form, natural_tail, complement, signed_form, signed_tail, signed_varint}
use Rattle.context_model.proofs.Digits.{power_positive, Turns, keeps, reverses, topped-order}

pub upto_eight : (P : ℕ → Type 0) → P 0 → P 1 → P 2 → P 3 → P 4 → P 5 → P 6 → P 7 → P 8 → (k : ℕ) → k ≤ 8 → P k
upto_eight P a b c d e f g h i zero l = a
upto_eight P a b c d e f g h i (suc zero) l = b
upto_eight P a b c d e f g h i (suc (suc zero)) l = c
upto_eight P a b c d e f g h i (suc (suc (suc zero))) l = d
upto_eight P a b c d e f g h i (suc (suc (suc (suc zero)))) l = e
upto_eight P a b c d e f g h i (suc (suc (suc (suc (suc zero))))) l = f
upto_eight P a b c d e f g h i (suc (suc (suc (suc (suc (suc zero)))))) l = g
upto_eight P a b c d e f g h i (suc (suc (suc (suc (suc (suc (suc zero))))))) l = h
upto_eight P a b c d e f g h i (suc (suc (suc (suc (suc (suc (suc (suc zero)))))))) l = i
upto_eight P a b c d e f g h i (suc (suc (suc (suc (suc (suc (suc (suc (suc k))))))))) l = absurd (omega arith)

-- a greater number reaches no fewer limits
reached-le : (limits : List ℕ) (m n : ℕ) → m ≤ n → count_by (λ l. nat_le l m) limits ≤ count_by (λ l. nat_le l n) limits
reached-le limits m n h = sum_by-le-sum_by (λ l. cond (nat_le l m) 1 0) (λ l. cond (nat_le l n) 1 0) limits (λ l. one l)
  where
    one : (l : ℕ) → cond (nat_le l m) 1 0 ≤ cond (nat_le l n) 1 0
    one l = grind (arith, nat_tests)

-- ---- which unsigned number has which length

pub unsigned_tail-le : (m n : ℕ) → m ≤ n → unsigned_tail m ≤ unsigned_tail n
unfolding unsigned_tail
unsigned_tail-le m n h = reached-le (2 ^ 7 ∷ 2 ^ 14 ∷ 2 ^ 21 ∷ 2 ^ 28 ∷ 2 ^ 35 ∷ 2 ^ 42 ∷ 2 ^ 49 ∷ 2 ^ 56 ∷ []) m n h

-- the numbers that k bytes after the first have room for are those below this one
abbrev pub unsigned_room : ℕ → ℕ
unsigned_room k = 2 ^ (7 - k) * 256 ^ k

unsigned_tail-last : (k : ℕ) → k ≤ 8 → unsigned_tail (unsigned_room k - 1) ≡ k
unfolding unsigned_tail
unsigned_tail-last = upto_eight (λ k. unsigned_tail (unsigned_room k - 1) ≡ k) refl refl refl refl refl refl refl refl refl

unsigned_tail-first : (k : ℕ) → k ≤ 8 → k < 8 → unsigned_tail (unsigned_room k) ≡ suc k
unfolding unsigned_tail
unsigned_tail-first = upto_eight (λ k. k < 8 → unsigned_tail (unsigned_room k) ≡ suc k) (λ h. refl) (λ h. refl) (λ h. refl) (λ h. refl) (λ h. refl) (λ h. refl) (λ h. refl) (λ h. refl) (λ h. absurd (omega arith))

-- a number for which there is room has no longer code
pub unsigned_tail-most : (k n : ℕ) → k ≤ 8 → n < unsigned_room k → unsigned_tail n ≤ k
unsigned_tail-most k n h l =
    let e : unsigned_tail (unsigned_room k - 1) ≡ k = unsigned_tail-last k h in
    let o : unsigned_tail n ≤ unsigned_tail (unsigned_room k - 1) = unsigned_tail-le n (unsigned_room k - 1) (omega arith) in
    omega arith

pub unsigned_tail-bound : (n : ℕ) → n < 2 ^ 64 → unsigned_tail n ≤ 8
unsigned_tail-bound n h = unsigned_tail-most 8 n (lit≤ tt) h

-- a number has room in its own length
pub unsigned_tail-room : (n : ℕ) → n < 2 ^ 64 → n < unsigned_room (unsigned_tail n)
unsigned_tail-room n h = by (unsigned_tail n) refl (unsigned_tail-bound n h)
  where
    by : (k : ℕ) → unsigned_tail n ≡ k → k ≤ 8 → n < unsigned_room k
    by k e l = elim (cases_lt n (unsigned_room k)) [ inl o ↦ o | inr o ↦ last o (cases_lt k 8) ]
      where
        last : unsigned_room k ≤ n → (k < 8) ⊎ (8 ≤ k) → n < unsigned_room k
        last o (inl small) =
            let first : unsigned_tail (unsigned_room k) ≡ suc k = unsigned_tail-first k l small in
            let more : unsigned_tail (unsigned_room k) ≤ unsigned_tail n = unsigned_tail-le (unsigned_room k) n o in
            absurd (omega arith)
        last o (inr great) = let whole : k ≡ 8 = omega arith in subst (λ v. n < unsigned_room v) (sym whole) h

-- a number with a shorter code has room
unsigned_tail-reached : (k : ℕ) → k ≤ 8 → k ≤ unsigned_tail (unsigned_room k)
unfolding unsigned_tail
unsigned_tail-reached = upto_eight (λ k. k ≤ unsigned_tail (unsigned_room k)) (lit≤ tt) (lit≤ tt) (lit≤ tt) (lit≤ tt) (lit≤ tt) (lit≤ tt) (lit≤ tt) (lit≤ tt) (lit≤ tt)

pub unsigned_tail-below : (k n : ℕ) → k ≤ 8 → unsigned_tail n < k → n < unsigned_room k
unsigned_tail-below k n h l = elim (cases_lt n (unsigned_room k)) [
  | inl o ↦ o
  | inr o ↦ let reached : k ≤ unsigned_tail (unsigned_room k) = unsigned_tail-reached k h in let more : unsigned_tail (unsigned_room k) ≤ unsigned_tail n = unsigned_tail-le (unsigned_room k) n o in absurd (omega arith)
]

pub unsigned_room-most : (k : ℕ) → k ≤ 8 → unsigned_room k ≤ 2 ^ 64
unsigned_room-most = upto_eight (λ k. unsigned_room k ≤ 2 ^ 64) (lit≤ tt) (lit≤ tt) (lit≤ tt) (lit≤ tt) (lit≤ tt) (lit≤ tt) (lit≤ tt) (lit≤ tt) (lit≤ tt)

-- ---- which signed number has which length; from 0 on

pub natural_tail-le : (m n : ℕ) → m ≤ n → natural_tail m ≤ natural_tail n
unfolding natural_tail
natural_tail-le m n h = reached-le (2 ^ 6 ∷ 2 ^ 13 ∷ 2 ^ 20 ∷ 2 ^ 27 ∷ 2 ^ 34 ∷ 2 ^ 41 ∷ 2 ^ 48 ∷ 2 ^ 48 ∷ []) m n h

abbrev pub natural_room : ℕ → ℕ
natural_room k = 2 ^ (6 - k) * 256 ^ k

natural_tail-last : (k : ℕ) → k ≤ 8 → (k ≡ 7 → ⊥) → natural_tail (natural_room k - 1) ≡ k
unfolding natural_tail
natural_tail-last = upto_eight (λ k. (k ≡ 7 → ⊥) → natural_tail (natural_room k - 1) ≡ k) (λ h. refl) (λ h. refl) (λ h. refl) (λ h. refl) (λ h. refl) (λ h. refl) (λ h. refl) (λ h. absurd (h refl)) (λ h. refl)

natural_tail-first : (k : ℕ) → k ≤ 8 → k < 7 → k < natural_tail (natural_room k)
unfolding natural_tail
natural_tail-first = upto_eight (λ k. k < 7 → k < natural_tail (natural_room k)) (λ h. lit< tt) (λ h. lit< tt) (λ h. lit< tt) (λ h. lit< tt) (λ h. lit< tt) (λ h. lit< tt) (λ h. lit< tt) (λ h. absurd (omega arith)) (λ h. absurd (omega arith))

-- from the last limit on
pub natural_tail-whole : natural_tail (2 ^ 48) ≡ 8
unfolding natural_tail
natural_tail-whole = refl

-- a number for which there is room has no longer code
pub natural_tail-most : (k n : ℕ) → k ≤ 8 → (k ≡ 7 → ⊥) → n < natural_room k → natural_tail n ≤ k
natural_tail-most k n h u l =
    let e : natural_tail (natural_room k - 1) ≡ k = natural_tail-last k h u in
    let o : natural_tail n ≤ natural_tail (natural_room k - 1) = natural_tail-le n (natural_room k - 1) (omega arith) in
    omega arith

-- from 0 to 6 bytes follow the first, or eight
pub natural_tail-length : (n : ℕ) → n < 2 ^ 64 → (natural_tail n < 7) ⊎ (natural_tail n ≡ 8)
natural_tail-length n h =
    let most : natural_tail n ≤ 8 = natural_tail-most 8 n (lit≤ tt) (λ e. absurd (omega arith)) h in
    elim (cases_lt n (2 ^ 48)) [
      | inl o ↦ let low : natural_tail n ≤ 6 = natural_tail-most 6 n (lit≤ tt) (λ e. absurd (omega arith)) o in inl (omega arith)
      | inr o ↦ let more : natural_tail (2 ^ 48) ≤ natural_tail n = natural_tail-le (2 ^ 48) n o in let e : natural_tail (2 ^ 48) ≡ 8 = natural_tail-whole in inr (omega arith)
    ]

pub natural_tail-room : (n : ℕ) → n < 2 ^ 64 → n < natural_room (natural_tail n)
natural_tail-room n h = by (natural_tail n) refl (natural_tail-length n h)
  where
    by : (k : ℕ) → natural_tail n ≡ k → (k < 7) ⊎ (k ≡ 8) → n < natural_room k
    by k e (inl small) = elim (cases_lt n (natural_room k)) [
      | inl o ↦ o
      | inr o ↦
          let first : k < natural_tail (natural_room k) = natural_tail-first k (omega arith) small in
          let more : natural_tail (natural_room k) ≤ natural_tail n = natural_tail-le (natural_room k) n o in
          absurd (omega arith)
    ]
    by k e (inr whole) = subst (λ v. n < natural_room v) (sym whole) h

natural_tail-reached : (k : ℕ) → k ≤ 8 → k ≤ natural_tail (natural_room k)
unfolding natural_tail
natural_tail-reached = upto_eight (λ k. k ≤ natural_tail (natural_room k)) (lit≤ tt) (lit≤ tt) (lit≤ tt) (lit≤ tt) (lit≤ tt) (lit≤ tt) (lit≤ tt) (lit≤ tt) (lit≤ tt)

pub natural_tail-below : (k n : ℕ) → k ≤ 8 → natural_tail n < k → n < natural_room k
natural_tail-below k n h l = elim (cases_lt n (natural_room k)) [
  | inl o ↦ o
  | inr o ↦ let reached : k ≤ natural_tail (natural_room k) = natural_tail-reached k h in let more : natural_tail (natural_room k) ≤ natural_tail n = natural_tail-le (natural_room k) n o in absurd (omega arith)
]

pub natural_room-most : (k : ℕ) → k ≤ 8 → natural_room k ≤ 2 ^ 64
natural_room-most = upto_eight (λ k. natural_room k ≤ 2 ^ 64) (lit≤ tt) (lit≤ tt) (lit≤ tt) (lit≤ tt) (lit≤ tt) (lit≤ tt) (lit≤ tt) (lit≤ tt) (lit≤ tt)

-- ---- the order of codes

-- What the codes of a family have in common. With k bytes after it the first byte is top k and
-- more, and below top k + width k.
record Family (top width : ℕ → ℕ) (tail : ℕ → ℕ) : Type 0 where
  fits : (n : ℕ) → n < 2 ^ 64 → n < width (tail n) * 256 ^ tail n
  bytes : (n : ℕ) → n < 2 ^ 64 → top (tail n) + width (tail n) ≤ 256
  rises : (m n : ℕ) → m < 2 ^ 64 → n < 2 ^ 64 → tail m < tail n → top (tail m) + width (tail m) ≤ top (tail n)
  order : (m n : ℕ) → m ≤ n → tail m ≤ tail n

module _ (top width tail : ℕ → ℕ) (family : Family top width tail) (f : ℕ → ℕ) (g : Ordering → Ordering) (turns : Turns f g) where
  first_of : ℕ → ℕ
  first_of n = top (tail n) + n / 256 ^ tail n

  code : ℕ → List ℕ
  code n = map f (first_of n ∷ big_endian (tail n) n)

  part : (n : ℕ) → n < 2 ^ 64 → n / 256 ^ tail n < width (tail n)
  part n h = (div-lt_iff_lt-mul (power_positive (tail n))).1 (family.fits n h)

  byte : (n : ℕ) → n < 2 ^ 64 → first_of n < 256
  unfolding first_of
  byte n h = let p : n / 256 ^ tail n < width (tail n) = part n h in let b : top (tail n) + width (tail n) ≤ 256 = family.bytes n h in omega arith

  apart : (m n : ℕ) → m < 2 ^ 64 → n < 2 ^ 64 → tail m < tail n → (m < n) × (first_of m < first_of n)
  unfolding first_of
  apart m n hm hn h = (
    elim (cases_lt m n) [ inl o ↦ o | inr o ↦ let back : tail n ≤ tail m = family.order n m o in absurd (omega arith) ],
    let p : m / 256 ^ tail m < width (tail m) = part m hm in let r : top (tail m) + width (tail m) ≤ top (tail n) = family.rises m n hm hn h in omega arith,
  )

  codes-order : (m n : ℕ) (s t : List ℕ) → m < 2 ^ 64 → n < 2 ^ 64 → slice_cmp nat_cmp (code m ++ s) (code n ++ t) ≡ ordering_then (g (nat_cmp m n)) (slice_cmp nat_cmp s t)
  unfolding code first_of
  codes-order m n s t hm hn = elim (cases_order (tail m) (tail n)) [
    | inl e ↦ same e
    | inr (inl h) ↦ less h
    | inr (inr h) ↦ greater h
  ]
    where
      behind : Ordering
      behind = slice_cmp nat_cmp (map f (big_endian (tail m) m) ++ s) (map f (big_endian (tail n) n) ++ t)

      same : tail m ≡ tail n → slice_cmp nat_cmp (map f (first_of m ∷ big_endian (tail m) m) ++ s) (map f (first_of n ∷ big_endian (tail n) n) ++ t) ≡ ordering_then (g (nat_cmp m n)) (slice_cmp nat_cmp s t)
      same e =
          subst (λ k. slice_cmp nat_cmp (f (top (tail m) + m / 256 ^ tail m) ∷ map f (big_endian (tail m) m) ++ s) (f (top k + n / 256 ^ k) ∷ map f (big_endian k n) ++ t)
          ≡ ordering_then (g (nat_cmp m n)) (slice_cmp nat_cmp s t)) e
          (topped-order f g turns (top (tail m)) (tail m) m n s t (byte m hm) (subst (λ k. top k + n / 256 ^ k < 256) (sym e) (byte n hn)))

      less : tail m < tail n → slice_cmp nat_cmp (map f (first_of m ∷ big_endian (tail m) m) ++ s) (map f (first_of n ∷ big_endian (tail n) n) ++ t) ≡ ordering_then (g (nat_cmp m n)) (slice_cmp nat_cmp s t)
      less h =
          let o : (m < n) × (first_of m < first_of n) = apart m n hm hn h in
          ap (λ r. ordering_then r behind) (turns.bytes (first_of m) (first_of n) (byte m hm) (byte n hn) ∙ ap g (sym (nat_cmp_is (first_of m) (first_of n) Less o.1)))
          ∙ turns.less behind (slice_cmp nat_cmp s t) ∙ ap (λ r. ordering_then (g r) (slice_cmp nat_cmp s t)) (nat_cmp_is m n Less o.0)

      greater : tail n < tail m → slice_cmp nat_cmp (map f (first_of m ∷ big_endian (tail m) m) ++ s) (map f (first_of n ∷ big_endian (tail n) n) ++ t) ≡ ordering_then (g (nat_cmp m n)) (slice_cmp nat_cmp s t)
      greater h =
          let o : (n < m) × (first_of n < first_of m) = apart n m hn hm h in
          ap (λ r. ordering_then r behind) (turns.bytes (first_of m) (first_of n) (byte m hm) (byte n hn) ∙ ap g (sym (nat_cmp_is (first_of m) (first_of n) Greater o.1)))
          ∙ turns.greater behind (slice_cmp nat_cmp s t) ∙ ap (λ r. ordering_then (g r) (slice_cmp nat_cmp s t)) (nat_cmp_is m n Greater o.0)

-- the first byte with k bytes after it: k ones, and a zero where there is room
half : (i : ℕ) → 2 ^ suc i ≡ 2 * 2 ^ i
half i = let e : 2 ^ suc i ≡ 2 ^ i * 2 = pow-suc 2 i in omega arith

pub powers : (i j : ℕ) → i ≤ j → 2 ^ i ≤ 2 ^ j
powers i j h = pow-le-pow_right (lit< tt) h

abbrev pub unsigned_first : ℕ → ℕ
unsigned_first k = 256 - 2 ^ (8 - k)

pub unsigned_rises : (j k : ℕ) → k ≤ 8 → j < k → unsigned_first j + 2 ^ (7 - j) ≤ unsigned_first k
unsigned_rises j k hk h =
    let step : 8 - j ≡ suc (7 - j) = omega arith in
    let double : 2 ^ (8 - j) ≡ 2 * 2 ^ (7 - j) = ap (λ v. 2 ^ v) step ∙ half (7 - j) in
    let most : 2 ^ (8 - j) ≤ 2 ^ 8 = powers (8 - j) 8 (omega arith) in
    let next : 2 ^ (8 - k) ≤ 2 ^ (7 - j) = powers (8 - k) (7 - j) (omega arith) in
    omega arith

pub unsigned_bytes : (k : ℕ) → k ≤ 8 → unsigned_first k + 2 ^ (7 - k) ≤ 256
unsigned_bytes = upto_eight (λ k. unsigned_first k + 2 ^ (7 - k) ≤ 256) (lit≤ tt) (lit≤ tt) (lit≤ tt) (lit≤ tt) (lit≤ tt) (lit≤ tt) (lit≤ tt) (lit≤ tt) (lit≤ tt)

unsigned_family : Family unsigned_first (λ k. 2 ^ (7 - k)) unsigned_tail
unsigned_family = record {
  fits = unsigned_tail-room;
  bytes = λ n h. unsigned_bytes (unsigned_tail n) (unsigned_tail-bound n h);
  rises = λ m n hm hn h. unsigned_rises (unsigned_tail m) (unsigned_tail n) (unsigned_tail-bound n hn) h;
  order = unsigned_tail-le;
}

abbrev pub natural_first : ℕ → ℕ
natural_first k = 256 - 2 ^ (7 - k)

pub natural_rises : (j k : ℕ) → j < 7 → k ≤ 8 → j < k → natural_first j + 2 ^ (6 - j) ≤ natural_first k
natural_rises j k hj hk h =
    let step : 7 - j ≡ suc (6 - j) = omega arith in
    let double : 2 ^ (7 - j) ≡ 2 * 2 ^ (6 - j) = ap (λ v. 2 ^ v) step ∙ half (6 - j) in
    let most : 2 ^ (7 - j) ≤ 2 ^ 7 = powers (7 - j) 7 (omega arith) in
    let next : 2 ^ (7 - k) ≤ 2 ^ (6 - j) = powers (7 - k) (6 - j) (omega arith) in
    omega arith

pub natural_bytes : (k : ℕ) → k ≤ 8 → natural_first k + 2 ^ (6 - k) ≤ 256
natural_bytes = upto_eight (λ k. natural_first k + 2 ^ (6 - k) ≤ 256) (lit≤ tt) (lit≤ tt) (lit≤ tt) (lit≤ tt) (lit≤ tt) (lit≤ tt) (lit≤ tt) (lit≤ tt) (lit≤ tt)

pub natural_tail-bound : (n : ℕ) → n < 2 ^ 64 → natural_tail n ≤ 8
natural_tail-bound n h = elim (natural_tail-length n h) [ inl o ↦ omega arith | inr o ↦ omega arith ]

natural_family : Family natural_first (λ k. 2 ^ (6 - k)) natural_tail
natural_family = record {
  fits = natural_tail-room;
  bytes = λ n h. natural_bytes (natural_tail n) (natural_tail-bound n h);
  rises = λ m n hm hn h. elim (natural_tail-length m hm) [
    | inl small ↦ natural_rises (natural_tail m) (natural_tail n) small (natural_tail-bound n hn) h
    | inr whole ↦ let bound : natural_tail n ≤ 8 = natural_tail-bound n hn in absurd (omega arith)
  ];
  order = natural_tail-le;
}

-- The order of two unsigned varints is that of the numbers, and where these are equal that of what follows.
pub unsigned_varint-order : (m n : ℕ) (s t : List ℕ) → m < 2 ^ 64 → n < 2 ^ 64
    → slice_cmp nat_cmp (unsigned_varint m ++ s) (unsigned_varint n ++ t) ≡ ordering_then (nat_cmp m n) (slice_cmp nat_cmp s t)
unfolding unsigned_varint unsigned_form code first_of
unsigned_varint-order m n s t hm hn =
    subst₂ (λ a b. slice_cmp nat_cmp (a ++ s) (b ++ t) ≡ ordering_then (nat_cmp m n) (slice_cmp nat_cmp s t)) (map-id (unsigned_varint m)) (map-id (unsigned_varint n))
    (codes-order unsigned_first (λ k. 2 ^ (7 - k)) unsigned_tail unsigned_family (λ b. b) (λ o. o) keeps m n s t hm hn)

natural_varint : ℕ → List ℕ
natural_varint n = natural_form (natural_tail n) n

natural_varint-order : (m n : ℕ) (s t : List ℕ) → m < 2 ^ 64 → n < 2 ^ 64
    → slice_cmp nat_cmp (natural_varint m ++ s) (natural_varint n ++ t) ≡ ordering_then (nat_cmp m n) (slice_cmp nat_cmp s t)
unfolding natural_varint natural_form code first_of
natural_varint-order m n s t hm hn =
    subst₂ (λ a b. slice_cmp nat_cmp (a ++ s) (b ++ t) ≡ ordering_then (nat_cmp m n) (slice_cmp nat_cmp s t)) (map-id (natural_varint m)) (map-id (natural_varint n))
    (codes-order natural_first (λ k. 2 ^ (6 - k)) natural_tail natural_family (λ b. b) (λ o. o) keeps m n s t hm hn)

negative_varint-order : (m n : ℕ) (s t : List ℕ) → m < 2 ^ 64 → n < 2 ^ 64
    → slice_cmp nat_cmp (complement (natural_varint m) ++ s) (complement (natural_varint n) ++ t) ≡ ordering_then (ordering_reverse (nat_cmp m n)) (slice_cmp nat_cmp s t)
unfolding natural_varint natural_form complement code first_of
negative_varint-order = codes-order natural_first (λ k. 2 ^ (6 - k)) natural_tail natural_family (λ b. 255 - b) ordering_reverse reverses

pub wide : (n : ℕ) → n < 2 ^ 63 → n < 2 ^ 64
wide n h = omega arith

int_cmp-from_zero : (m n : ℕ) → int_cmp (pos m) (pos n) ≡ nat_cmp m n
int_cmp-from_zero m n = grind (arith, nat_tests)

int_cmp-below_zero : (m n : ℕ) → int_cmp (negsuc m) (negsuc n) ≡ ordering_reverse (nat_cmp m n)
int_cmp-below_zero m n = sym (by (nat_cmp m n) (ranks m n))
  where
    by : (r : Ordering) → MatchOrdering r (m < n) (m ≡ n) (n < m) → ordering_reverse r ≡ int_cmp (negsuc m) (negsuc n)
    by Less h = grind (arith, nat_tests)
    by Equal h = grind (arith, nat_tests)
    by Greater h = grind (arith, nat_tests)

-- the first byte of the code of a number from 0 on has its top bit set
pub natural_high : (n : ℕ) → 128 ≤ natural_first (natural_tail n) + n / 256 ^ natural_tail n
natural_high n = let most : 2 ^ (7 - natural_tail n) ≤ 2 ^ 7 = powers (7 - natural_tail n) 7 (omega arith) in omega arith

-- the order of two signed varints, likewise
pub signed_varint-order : (y z : ℤ) (s t : List ℕ) → FitsSigned w64 y → FitsSigned w64 z
    → slice_cmp nat_cmp (signed_varint y ++ s) (signed_varint z ++ t) ≡ ordering_then (int_cmp y z) (slice_cmp nat_cmp s t)
unfolding signed_varint signed_form signed_tail natural_varint natural_form complement
signed_varint-order (pos m) (pos n) s t hm hn =
    natural_varint-order m n s t (wide m hm.sfits) (wide n hn.sfits) ∙ ap (λ r. ordering_then r (slice_cmp nat_cmp s t)) (sym (int_cmp-from_zero m n))
signed_varint-order (negsuc m) (negsuc n) s t hm hn =
    negative_varint-order m n s t (wide m hm.sfits) (wide n hn.sfits) ∙ ap (λ r. ordering_then r (slice_cmp nat_cmp s t)) (sym (int_cmp-below_zero m n))
signed_varint-order (pos m) (negsuc n) s t hm hn =
    ap (λ r. ordering_then r (slice_cmp nat_cmp (big_endian (natural_tail m) m ++ s) (map (λ b. 255 - b) (big_endian (natural_tail n) n) ++ t)))
    (sym (nat_cmp_is (natural_first (natural_tail m) + m / 256 ^ natural_tail m) (255 - (natural_first (natural_tail n) + n / 256 ^ natural_tail n)) Greater
    (let a : 128 ≤ natural_first (natural_tail m) + m / 256 ^ natural_tail m = natural_high m in let b : 128 ≤ natural_first (natural_tail n) + n / 256 ^ natural_tail n = natural_high n in omega arith)))
signed_varint-order (negsuc m) (pos n) s t hm hn =
    ap (λ r. ordering_then r (slice_cmp nat_cmp (map (λ b. 255 - b) (big_endian (natural_tail m) m) ++ s) (big_endian (natural_tail n) n ++ t)))
    (sym (nat_cmp_is (255 - (natural_first (natural_tail m) + m / 256 ^ natural_tail m)) (natural_first (natural_tail n) + n / 256 ^ natural_tail n) Less
    (let a : 128 ≤ natural_first (natural_tail m) + m / 256 ^ natural_tail m = natural_high m in let b : 128 ≤ natural_first (natural_tail n) + n / 256 ^ natural_tail n = natural_high n in omega arith)))

-- ---- no code begins another, and each number has one code

pub tied : (r o : Ordering) → ordering_then r o ≡ Equal → r ≡ Equal
tied Less o e = cc
tied Equal o e = refl
tied Greater o e = cc

-- no unsigned varint begins another, whatever follows them
pub unsigned_varint-prefix : (m n : ℕ) (s t : List ℕ) → m < 2 ^ 64 → n < 2 ^ 64 → unsigned_varint m ++ s ≡ unsigned_varint n ++ t → m ≡ n
unsigned_varint-prefix m n s t hm hn e =
    nat_cmp-IsAntisymmetric m n (tied (nat_cmp m n) (slice_cmp nat_cmp s t)
    (sym (unsigned_varint-order m n s t hm hn) ∙ ap (λ l. slice_cmp nat_cmp l (unsigned_varint n ++ t)) e ∙ tied_itself nat_list_cmp_total (unsigned_varint n ++ t)))

pub unsigned_varint-injective : (m n : ℕ) → m < 2 ^ 64 → n < 2 ^ 64 → unsigned_varint m ≡ unsigned_varint n → m ≡ n
unsigned_varint-injective m n hm hn e = unsigned_varint-prefix m n [] [] hm hn (ap (λ l. l ++ []) e)

pub signed_varint-prefix : (y z : ℤ) (s t : List ℕ) → FitsSigned w64 y → FitsSigned w64 z → signed_varint y ++ s ≡ signed_varint z ++ t → y ≡ z
signed_varint-prefix y z s t hy hz e =
    int_cmp-IsAntisymmetric y z (tied (int_cmp y z) (slice_cmp nat_cmp s t)
    (sym (signed_varint-order y z s t hy hz) ∙ ap (λ l. slice_cmp nat_cmp l (signed_varint z ++ t)) e ∙ tied_itself nat_list_cmp_total (signed_varint z ++ t)))
