use Rattle.std.proofs.Common.{◌≡◌, ℤ, pos, negsuc, ◌-ℤ◌, nat_abs, FitsSigned, to_z, of_z, to_z-of_z, w64, true, false, int_lt, sym, refl, ap, ◌∙◌, subst, arith, ◌<◌, ltb-true}
use Rattle.std.proofs.lemmas.Int.{ints}
use Rattle.context_model.specs.Varints.{natural_form, natural_tail, complement, signed_form, signed_tail, signed_varint}
use Rattle.lex_varint.proofs.put_i64.Goals as goal

-- a number from 0 on as itself
from_zero : (z : ℤ) → int_lt z (pos 0) ≡ false → natural_form (natural_tail (nat_abs z)) (nat_abs z) ≡ signed_varint z
unfolding signed_varint signed_form signed_tail
from_zero (pos n) h = refl
from_zero (negsuc n) h = cc

-- a negative number as the one on the other side of zero
below_zero : (z : ℤ) → FitsSigned w64 z → int_lt z (pos 0) ≡ true
    → complement (natural_form (natural_tail (nat_abs (to_z w64 (of_z w64 (negsuc 0 -ℤ z))))) (nat_abs (to_z w64 (of_z w64 (negsuc 0 -ℤ z))))) ≡ signed_varint z
unfolding signed_varint signed_form signed_tail
below_zero (pos n) f h = let never : n < 0 = ltb-true n 0 h in absurd (omega arith)
below_zero (negsuc n) f h = ap (λ v. complement (natural_form (natural_tail (nat_abs v)) (nat_abs v))) (across ∙ other)
  where
    other : negsuc 0 -ℤ negsuc n ≡ pos n
    other = omega (arith, ints)

    across : to_z w64 (of_z w64 (negsuc 0 -ℤ negsuc n)) ≡ negsuc 0 -ℤ negsuc n
    across = to_z-of_z (subst (λ v. FitsSigned w64 v) (sym other) (record { sfits = f.sfits }))

pub returns-then-value-lt0 : goal.returns-then-value-lt0
returns-then-value-lt0 c =
    let same : to_z w64 (of_z w64 c.args.value) ≡ c.args.value = to_z-of_z c.ranges.value in
    c.turned_code.ensures ∙ ap complement (c.put_natural.ensures ∙ ap (λ v. natural_form (natural_tail (nat_abs (to_z w64 (of_z w64 (negsuc 0 -ℤ v))))) (nat_abs (to_z w64 (of_z w64 (negsuc 0 -ℤ v))))) same)
    ∙ below_zero c.args.value c.ranges.value (subst (λ v. int_lt v (pos 0) ≡ true) same c.if-value-lt0.true)

pub returns-else-value-lt0 : goal.returns-else-value-lt0
returns-else-value-lt0 c =
    let same : to_z w64 (of_z w64 c.args.value) ≡ c.args.value = to_z-of_z c.ranges.value in
    c.put_natural-else-value-lt0.ensures ∙ ap (λ v. natural_form (natural_tail (nat_abs v)) (nat_abs v)) same
    ∙ from_zero c.args.value (subst (λ v. int_lt v (pos 0) ≡ false) same c.if-value-lt0.false)
