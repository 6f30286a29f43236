-- The bytes of a number, most significant first: their count, how they change with the number, and their order.
use Rattle.std.proofs.Common.{◌≡◌, ℕ, zero, suc, ◌+◌, ◌-◌, ◌*◌, ◌/◌, ◌%◌, ◌^◌, ◌<◌, ◌≤◌, List, [], ◌∷◌, ◌++◌, map, length, Ordering, Less, Equal, Greater, nat_cmp, sym, refl, ap, ap₂, ◌∙◌, arith, lit<, div-add-mod', pow-suc, mul-le-mul_right}
use Rattle.std.proofs.Math.Nat.{one-le-pow, mod-one, pow-succ', div-div-eq-div-mul}
use Rattle.std.proofs.lemmas.Nat.{mul-add-lt, mod-mul-add, div-mul-add, mod_below}
use Rattle.std.specs.Ordering.{ordering_then, ordering_reverse, MatchOrdering}
use Rattle.std.specs.Cmp.{ranks, nat_cmp_is}
use Rattle.std.specs.Cmp.Lexicographic.{slice_cmp}
use Rattle.context_model.specs.Varints.{big_endian}

pub power_positive : (w : ℕ) → 0 < 256 ^ w
power_positive w = one-le-pow w 256 (lit< tt)

pub length-big_endian : (w n : ℕ) → length (big_endian w n) ≡ w
length-big_endian zero n = refl
length-big_endian (suc w) n = ap (λ k. suc k) (length-big_endian w n)

-- ---- one place more

spread : (a r p x : ℕ) → (a * 256 + r) * p + x ≡ a * (p * 256) + (r * p + x)
spread a r p x = omega arith

pub low_place : (n p : ℕ) → 0 < p → n % (p * 256) ≡ n / p % 256 * p + n % p
low_place n p h =
    let q : ℕ = n / p in
    let whole : n ≡ (q / 256 * 256 + q % 256) * p + n % p = sym (div-add-mod' n p) ∙ ap (λ v. v * p + n % p) (sym (div-add-mod' q 256)) in
    let below : q % 256 * p + n % p < p * 256 = mul-add-lt (q % 256) p (n % p) 256 (mod_below q 256 (lit< tt)) (mod_below n p h) in
    ap (λ v. v % (p * 256)) (whole ∙ spread (q / 256) (q % 256) p (n % p)) ∙ mod-mul-add (q / 256) (p * 256) (q % 256 * p + n % p) below

place_less : (p a b x y : ℕ) → a < b → x < p → a * p + x < b * p + y
place_less p a b x y h hx = let most : suc a * p ≤ b * p = mul-le-mul_right p h in omega arith

pub nat_cmp-place : (p a b x y : ℕ) → x < p → y < p → nat_cmp (a * p + x) (b * p + y) ≡ ordering_then (nat_cmp a b) (nat_cmp x y)
nat_cmp-place p a b x y hx hy = sym (nat_cmp_is (a * p + x) (b * p + y) (ordering_then (nat_cmp a b) (nat_cmp x y)) (by (nat_cmp a b) (ranks a b)))
  where
    low : a ≡ b → (s : Ordering) → MatchOrdering s (x < y) (x ≡ y) (y < x) → MatchOrdering s (a * p + x < b * p + y) (a * p + x ≡ b * p + y) (b * p + y < a * p + x)
    low e Less h = let same : a * p ≡ b * p = ap (λ v. v * p) e in omega arith
    low e Equal h = ap₂ (λ v w. v * p + w) e h
    low e Greater h = let same : a * p ≡ b * p = ap (λ v. v * p) e in omega arith

    by : (r : Ordering) → MatchOrdering r (a < b) (a ≡ b) (b < a)
        → MatchOrdering (ordering_then r (nat_cmp x y)) (a * p + x < b * p + y) (a * p + x ≡ b * p + y) (b * p + y < a * p + x)
    by Less h = place_less p a b x y h hx
    by Equal h = low h (nat_cmp x y) (ranks x y)
    by Greater h = place_less p b a y x h hy

pub nat_cmp-shift : (c a b : ℕ) → nat_cmp (c + a) (c + b) ≡ nat_cmp a b
nat_cmp-shift c a b = sym (nat_cmp_is (c + a) (c + b) (nat_cmp a b) (by (nat_cmp a b) (ranks a b)))
  where
    by : (r : Ordering) → MatchOrdering r (a < b) (a ≡ b) (b < a) → MatchOrdering r (c + a < c + b) (c + a ≡ c + b) (c + b < c + a)
    by Less h = omega arith
    by Equal h = ap (λ v. c + v) h
    by Greater h = omega arith

pub then-assoc : (a b c : Ordering) → ordering_then (ordering_then a b) c ≡ ordering_then a (ordering_then b c)
then-assoc Less b c = refl
then-assoc Equal b c = refl
then-assoc Greater b c = refl

-- ---- the order of bytes that are written by f, which keeps the order or turns it round, as g says

pub record Turns (f : ℕ → ℕ) (g : Ordering → Ordering) : Type 0 where
  pub bytes : (x y : ℕ) → x < 256 → y < 256 → nat_cmp (f x) (f y) ≡ g (nat_cmp x y)
  pub equal : g Equal ≡ Equal
  pub thens : (a b : Ordering) → g (ordering_then a b) ≡ ordering_then (g a) (g b)
  pub less : (a b : Ordering) → ordering_then (g Less) a ≡ ordering_then (g Less) b
  pub greater : (a b : Ordering) → ordering_then (g Greater) a ≡ ordering_then (g Greater) b

pub keeps : Turns (λ b. b) (λ o. o)
keeps = record { bytes = λ x y h k. refl; equal = refl; thens = λ a b. refl; less = λ a b. refl; greater = λ a b. refl }

pub reverses : Turns (λ b. 255 - b) ordering_reverse
reverses = record { bytes = λ x y h k. sym (nat_cmp_is (255 - x) (255 - y) (ordering_reverse (nat_cmp x y)) (by x y h k (nat_cmp x y) (ranks x y))); equal = refl; thens = thens; less = λ a b. refl; greater = λ a b. refl }
  where
    by : (x y : ℕ) → x < 256 → y < 256 → (r : Ordering) → MatchOrdering r (x < y) (x ≡ y) (y < x)
        → MatchOrdering (ordering_reverse r) (255 - x < 255 - y) (255 - x ≡ 255 - y) (255 - y < 255 - x)
    by x y h k Less o = omega arith
    by x y h k Equal o = omega arith
    by x y h k Greater o = omega arith

    thens : (a b : Ordering) → ordering_reverse (ordering_then a b) ≡ ordering_then (ordering_reverse a) (ordering_reverse b)
    thens Less b = refl
    thens Equal b = refl
    thens Greater b = refl

module _ (f : ℕ → ℕ) (g : Ordering → Ordering) (turns : Turns f g) where
  -- the w low bytes of two numbers, whatever follows them: first the numbers that they hold, then
  -- what follows
  pub digits-order : (w m n : ℕ) (s t : List ℕ)
      → slice_cmp nat_cmp (map f (big_endian w m) ++ s) (map f (big_endian w n) ++ t) ≡ ordering_then (g (nat_cmp (m % 256 ^ w) (n % 256 ^ w))) (slice_cmp nat_cmp s t)
  digits-order zero m n s t =
      ap (λ o. ordering_then o (slice_cmp nat_cmp s t)) (sym turns.equal ∙ ap₂ (λ a b. g (nat_cmp a b)) (sym (mod-one m)) (sym (mod-one n)))
  digits-order (suc w) m n s t =
      let p : ℕ = 256 ^ w in
      let positive : 0 < p = power_positive w in
      let x : ℕ = m / p % 256 in
      let y : ℕ = n / p % 256 in
      let rest : Ordering = slice_cmp nat_cmp s t in
      let low_m : m % 256 ^ suc w ≡ x * p + m % p = ap (λ v. m % v) (pow-suc 256 w) ∙ low_place m p positive in
      let low_n : n % 256 ^ suc w ≡ y * p + n % p = ap (λ v. n % v) (pow-suc 256 w) ∙ low_place n p positive in
      let whole : nat_cmp (m % 256 ^ suc w) (n % 256 ^ suc w) ≡ ordering_then (nat_cmp x y) (nat_cmp (m % p) (n % p)) =
      ap₂ nat_cmp low_m low_n ∙ nat_cmp-place p x y (m % p) (n % p) (mod_below m p positive) (mod_below n p positive) in
      ap₂ ordering_then (turns.bytes x y (mod_below (m / p) 256 (lit< tt)) (mod_below (n / p) 256 (lit< tt))) (digits-order w m n s t)
      ∙ sym (then-assoc (g (nat_cmp x y)) (g (nat_cmp (m % p) (n % p))) rest)
      ∙ ap (λ o. ordering_then o rest) (sym (turns.thens (nat_cmp x y) (nat_cmp (m % p) (n % p))) ∙ ap g (sym whole))

  -- the same below a first byte that holds c and the higher part of the number
  pub topped-order : (c k m n : ℕ) (s t : List ℕ) → c + m / 256 ^ k < 256 → c + n / 256 ^ k < 256
      → slice_cmp nat_cmp (f (c + m / 256 ^ k) ∷ map f (big_endian k m) ++ s) (f (c + n / 256 ^ k) ∷ map f (big_endian k n) ++ t) ≡ ordering_then (g (nat_cmp m n)) (slice_cmp nat_cmp s t)
  topped-order c k m n s t hm hn =
      let p : ℕ = 256 ^ k in
      let positive : 0 < p = power_positive k in
      let rest : Ordering = slice_cmp nat_cmp s t in
      let whole : nat_cmp m n ≡ ordering_then (nat_cmp (m / p) (n / p)) (nat_cmp (m % p) (n % p)) =
      ap₂ nat_cmp (sym (div-add-mod' m p)) (sym (div-add-mod' n p)) ∙ nat_cmp-place p (m / p) (n / p) (m % p) (n % p) (mod_below m p positive) (mod_below n p positive) in
      ap₂ ordering_then (turns.bytes (c + m / p) (c + n / p) hm hn ∙ ap g (nat_cmp-shift c (m / p) (n / p))) (digits-order k m n s t)
      ∙ sym (then-assoc (g (nat_cmp (m / p) (n / p))) (g (nat_cmp (m % p) (n % p))) rest)
      ∙ ap (λ o. ordering_then o rest) (sym (turns.thens (nat_cmp (m / p) (n / p)) (nat_cmp (m % p) (n % p))) ∙ ap g (sym whole))

-- ---- a byte more after a number

pub more-div : (w n b : ℕ) → b < 256 → (n * 256 + b) / 256 ^ suc w ≡ n / 256 ^ w
more-div w n b h =
    ap (λ v. (n * 256 + b) / v) (pow-succ' 256 w) ∙ sym (div-div-eq-div-mul (n * 256 + b) 256 (256 ^ w)) ∙ ap (λ v. v / 256 ^ w) (div-mul-add n 256 b h)

pub big_endian-more : (w n b : ℕ) → b < 256 → big_endian (suc w) (n * 256 + b) ≡ big_endian w n ++ b ∷ []
big_endian-more zero n b h = ap (λ v. v ∷ []) (ap (λ v. v % 256) (div_one (n * 256 + b)) ∙ mod-mul-add n 256 b h)
  where
    div_one : (v : ℕ) → v / 1 ≡ v
    div_one v = omega arith
big_endian-more (suc w) n b h = λ i. place i ∷ big_endian-more w n b h i
  where
    place : (n * 256 + b) / 256 ^ suc w % 256 ≡ n / 256 ^ w % 256
    place = ap (λ v. v % 256) (more-div w n b h)
