-- Truth values, numbers in their forms and escaped bytes keep their order, whatever follows them.
use Rattle.std.proofs.Common.{◌≡◌, ℕ, zero, suc, ◌^◌, ◌<◌, ℤ, pos, negsuc, ◌<ℤ◌, Bool, true, false, List, [], ◌∷◌, ◌++◌, Ordering, Less, Equal, Greater, nat_cmp, int_cmp, FitsSigned, w64, sym, refl, ap, ap₂, ◌∙◌, arith, subst₂}
use Rattle.std.proofs.Math.Nat.{mod-eq_of_lt}
use Rattle.std.proofs.lemmas.List.{map-id, append_assoc}
use Rattle.std.proofs.lemmas.Int.{ints}
use Rattle.std.proofs.lemmas.Cmp.{int_ranked}
use Rattle.std.specs.Ordering.{ordering_then, bool_cmp, MatchOrdering}
use Rattle.std.specs.Cmp.{nat_cmp_is}
use Rattle.std.specs.Cmp.Lexicographic.{slice_cmp}
use Rattle.std.specs.FinMap.{IsAntisymmetric, nat_cmp-IsAntisymmetric, int_cmp-IsAntisymmetric}
use Rattle.std.specs.List.{flat_map}
use Rattle.context_model.specs.Varints.{big_endian, unsigned_varint, signed_varint}
use Rattle.context_model.proofs.Digits.{keeps, digits-order, then-assoc}
use Rattle.context_model.proofs.VarintLaws.{unsigned_varint-order, signed_varint-order}
use Rattle.bag_model.specs.Scalars.{IsUnsigned, IsSigned, truth_bytes, fixed_bytes, sign_flipped, signed_fixed_bytes, escape, terminated}
use Rattle.bag_model.proofs.Codes.{KeepsOrder, bytes_exact}

pub bool_exact : IsAntisymmetric bool_cmp
bool_exact false false e = refl
bool_exact false true e = cc
bool_exact true false e = cc
bool_exact true true e = refl

truth-order : (v w : Bool) (s t : List ℕ) → slice_cmp nat_cmp (truth_bytes v ++ s) (truth_bytes w ++ t) ≡ ordering_then (bool_cmp v w) (slice_cmp nat_cmp s t)
truth-order false false s t = refl
truth-order false true s t = refl
truth-order true false s t = refl
truth-order true true s t = refl

pub truth_code : KeepsOrder (λ _. Unit {0}) truth_bytes bool_cmp
truth_code = record { order = λ v w s t _ _. truth-order v w s t; exact = bool_exact }

-- ---- varints

pub unsigned_wide : (wide : Bool) (n : ℕ) → IsUnsigned wide n → n < 2 ^ 64
unsigned_wide false n h = omega arith
unsigned_wide true n h = h

pub signed_wide : (wide : Bool) (z : ℤ) → IsSigned wide z → FitsSigned w64 z
signed_wide false z h = record { sfits = let small = h.sfits in omega arith }
signed_wide true z h = h

pub unsigned_code : (wide : Bool) → KeepsOrder (IsUnsigned wide) unsigned_varint nat_cmp
unsigned_code wide = record {
  order = λ v w s t p q. unsigned_varint-order v w s t (unsigned_wide wide v p) (unsigned_wide wide w q);
  exact = nat_cmp-IsAntisymmetric;
}

pub signed_code : (wide : Bool) → KeepsOrder (IsSigned wide) signed_varint int_cmp
signed_code wide = record {
  order = λ v w s t p q. signed_varint-order v w s t (signed_wide wide v p) (signed_wide wide w q);
  exact = int_cmp-IsAntisymmetric;
}

-- ---- four or eight bytes

bytes-order : (k m n : ℕ) (s t : List ℕ) → m < 256 ^ k → n < 256 ^ k
    → slice_cmp nat_cmp (big_endian k m ++ s) (big_endian k n ++ t) ≡ ordering_then (nat_cmp m n) (slice_cmp nat_cmp s t)
bytes-order k m n s t p q =
    subst₂ (λ a b. slice_cmp nat_cmp (a ++ s) (b ++ t) ≡ ordering_then (nat_cmp m n) (slice_cmp nat_cmp s t)) (map-id (big_endian k m)) (map-id (big_endian k n))
    (digits-order (λ b. b) (λ o. o) keeps k m n s t ∙ ap₂ (λ a b. ordering_then (nat_cmp a b) (slice_cmp nat_cmp s t)) (mod-eq_of_lt p) (mod-eq_of_lt q))

fixed-order : (wide : Bool) (m n : ℕ) (s t : List ℕ) → IsUnsigned wide m → IsUnsigned wide n
    → slice_cmp nat_cmp (fixed_bytes wide m ++ s) (fixed_bytes wide n ++ t) ≡ ordering_then (nat_cmp m n) (slice_cmp nat_cmp s t)
fixed-order false m n s t p q = bytes-order 4 m n s t p q
fixed-order true m n s t p q = bytes-order 8 m n s t p q

pub fixed_code : (wide : Bool) → KeepsOrder (IsUnsigned wide) (fixed_bytes wide) nat_cmp
fixed_code wide = record { order = fixed-order wide; exact = nat_cmp-IsAntisymmetric }

-- ---- the same with the sign bit flipped

pub sign_flipped-fits : (wide : Bool) (z : ℤ) → IsSigned wide z → IsUnsigned wide (sign_flipped wide z)
sign_flipped-fits false (pos n) h = let small = h.sfits in omega arith
sign_flipped-fits false (negsuc n) h = let small = h.sfits in omega arith
sign_flipped-fits true (pos n) h = let small = h.sfits in omega arith
sign_flipped-fits true (negsuc n) h = let small = h.sfits in omega arith

flipped_less : (wide : Bool) (y z : ℤ) → IsSigned wide y → IsSigned wide z → y <ℤ z → sign_flipped wide y < sign_flipped wide z
flipped_less false (pos m) (pos n) p q h = omega (arith, ints)
flipped_less false (pos m) (negsuc n) p q h = let small = p.sfits in omega (arith, ints)
flipped_less false (negsuc m) (pos n) p q h = let small = p.sfits in omega (arith, ints)
flipped_less false (negsuc m) (negsuc n) p q h = let small = p.sfits in omega (arith, ints)
flipped_less true (pos m) (pos n) p q h = omega (arith, ints)
flipped_less true (pos m) (negsuc n) p q h = let small = p.sfits in omega (arith, ints)
flipped_less true (negsuc m) (pos n) p q h = let small = p.sfits in omega (arith, ints)
flipped_less true (negsuc m) (negsuc n) p q h = let small = p.sfits in omega (arith, ints)

pub sign_flipped-order : (wide : Bool) (y z : ℤ) → IsSigned wide y → IsSigned wide z → nat_cmp (sign_flipped wide y) (sign_flipped wide z) ≡ int_cmp y z
sign_flipped-order wide y z p q = sym (nat_cmp_is (sign_flipped wide y) (sign_flipped wide z) (int_cmp y z) (by wide y z p q (int_cmp y z) (int_ranked y z (int_cmp y z) refl)))
  where
    by : (wide : Bool) (y z : ℤ) → IsSigned wide y → IsSigned wide z → (r : Ordering) → MatchOrdering r (y <ℤ z) (y ≡ z) (z <ℤ y)
        → MatchOrdering r (sign_flipped wide y < sign_flipped wide z) (sign_flipped wide y ≡ sign_flipped wide z) (sign_flipped wide z < sign_flipped wide y)
    by wide y z p q Less h = flipped_less wide y z p q h
    by wide y z p q Equal h = ap (sign_flipped wide) h
    by wide y z p q Greater h = flipped_less wide z y q p h

pub signed_fixed_code : (wide : Bool) → KeepsOrder (IsSigned wide) (signed_fixed_bytes wide) int_cmp
signed_fixed_code wide = record {
  order = λ v w s t p q.
      fixed-order wide (sign_flipped wide v) (sign_flipped wide w) s t (sign_flipped-fits wide v p) (sign_flipped-fits wide w q)
      ∙ ap (λ o. ordering_then o (slice_cmp nat_cmp s t)) (sign_flipped-order wide v w p q);
  exact = int_cmp-IsAntisymmetric;
}

-- ---- escaped bytes

below_next : (n : ℕ) → nat_cmp zero (suc n) ≡ Less
below_next n = sym (nat_cmp_is zero (suc n) Less (omega arith))

above_zero : (n : ℕ) → nat_cmp (suc n) zero ≡ Greater
above_zero n = sym (nat_cmp_is (suc n) zero Greater (omega arith))

-- the escaped bytes, their end and what follows
tailed : List ℕ → List ℕ → List ℕ
tailed bs s = flat_map escape bs ++ 0 ∷ 1 ∷ s

tailed-order : (a b s t : List ℕ) → slice_cmp nat_cmp (tailed a s) (tailed b t) ≡ ordering_then (slice_cmp nat_cmp a b) (slice_cmp nat_cmp s t)
unfolding tailed
tailed-order [] [] s t = refl
tailed-order [] (zero ∷ b) s t = refl
tailed-order [] (suc y ∷ b) s t = ap (λ o. ordering_then o (slice_cmp nat_cmp (1 ∷ s) (tailed b t))) (below_next y)
tailed-order (zero ∷ a) [] s t = refl
tailed-order (suc x ∷ a) [] s t = ap (λ o. ordering_then o (slice_cmp nat_cmp (tailed a s) (1 ∷ t))) (above_zero x)
tailed-order (zero ∷ a) (zero ∷ b) s t = tailed-order a b s t
tailed-order (zero ∷ a) (suc y ∷ b) s t = rw (below_next y) refl
tailed-order (suc x ∷ a) (zero ∷ b) s t = rw (above_zero x) refl
tailed-order (suc x ∷ a) (suc y ∷ b) s t =
    ap (λ o. ordering_then (nat_cmp (suc x) (suc y)) o) (tailed-order a b s t) ∙ sym (then-assoc (nat_cmp (suc x) (suc y)) (slice_cmp nat_cmp a b) (slice_cmp nat_cmp s t))

ended-tailed : (bs s : List ℕ) → terminated bs ++ s ≡ tailed bs s
unfolding tailed
ended-tailed bs s = append_assoc (flat_map escape bs) (0 ∷ 1 ∷ []) s

pub ended_code : KeepsOrder (λ _. Unit {0}) terminated (slice_cmp nat_cmp)
ended_code = record {
  order = λ v w s t _ _. ap₂ (slice_cmp nat_cmp) (ended-tailed v s) (ended-tailed w t) ∙ tailed-order v w s t;
  exact = bytes_exact;
}
