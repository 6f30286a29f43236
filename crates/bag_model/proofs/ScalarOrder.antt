-- The orders of plain values and of scalars are total, and values that tie are one value.
use Rattle.std.proofs.Common.{◌≡◌, ℕ, zero, suc, ℤ, pos, negsuc, Bool, true, false, List, [], ◌∷◌, Ordering, Equal, nat_cmp, int_cmp, sym, refl, ◌∙◌}
use Rattle.std.specs.Ordering.{ordering_then}
use Rattle.std.specs.Prelude.{unsigned_abs}
use Rattle.std.specs.Cmp.{IsTotalOrder}
use Rattle.std.specs.Cmp.Lexicographic.{slice_cmp}
use Rattle.std.specs.FinMap.{IsAntisymmetric, nat_cmp-IsAntisymmetric, int_cmp-IsAntisymmetric, slice_cmp-IsAntisymmetric}
use Rattle.std.proofs.lemmas.Cmp.{back_total, on_total, then_total, lists_total, nat_cmp_total, int_cmp_total, nat_list_cmp_total}
use Rattle.bag_model.specs.declared.Pick.{Pick}
use Rattle.bag_model.specs.declared.Pick.TheVariants.{Least, Greatest}
use Rattle.bag_model.specs.Scalars.{Plain, Truth, Signed, Unsigned, Text, Octets, ScalarValue, plain_rank, plain_number, plain_bytes, plain_cmp, scalar_rank, scalar_fields, scalar_cmp, pick_cmp}
use Rattle.bag_model.proofs.Codes.{then-first, then-second, bytes_exact}

pub plain_total : IsTotalOrder plain_cmp
plain_total = then_total (on_total plain_rank nat_cmp_total) (then_total (on_total plain_number int_cmp_total) (on_total plain_bytes nat_list_cmp_total))

pub scalar_total : IsTotalOrder scalar_cmp
scalar_total = then_total (on_total scalar_rank nat_cmp_total) (on_total scalar_fields (lists_total plain_total))

is_positive : ℤ → Bool
is_positive (pos zero) = false
is_positive (pos (suc n)) = true
is_positive (negsuc n) = false

-- the value back from its rank, number and bytes
plain_from : ℕ → ℤ → List ℕ → Plain
plain_from zero z bs = Truth (is_positive z)
plain_from (suc zero) z bs = Signed z
plain_from (suc (suc zero)) z bs = Unsigned (unsigned_abs z)
plain_from (suc (suc (suc zero))) z bs = Text bs
plain_from (suc (suc (suc (suc n)))) z bs = Octets bs

plain_back : (v : Plain) → plain_from (plain_rank v) (plain_number v) (plain_bytes v) ≡ v
unfolding plain_from is_positive
plain_back (Truth false) = refl
plain_back (Truth true) = refl
plain_back (Signed z) = refl
plain_back (Unsigned n) = refl
plain_back (Text bs) = refl
plain_back (Octets bs) = refl

pub plain_exact : IsAntisymmetric plain_cmp
plain_exact v w e =
    let ranks : Ordering = nat_cmp (plain_rank v) (plain_rank w) in
    let numbers : Ordering = int_cmp (plain_number v) (plain_number w) in
    let bytes : Ordering = slice_cmp nat_cmp (plain_bytes v) (plain_bytes w) in
    let rest : ordering_then numbers bytes ≡ Equal = then-second ranks (ordering_then numbers bytes) e in
    let one_rank : plain_rank v ≡ plain_rank w = nat_cmp-IsAntisymmetric (plain_rank v) (plain_rank w) (then-first ranks (ordering_then numbers bytes) e) in
    let one_number : plain_number v ≡ plain_number w = int_cmp-IsAntisymmetric (plain_number v) (plain_number w) (then-first numbers bytes rest) in
    let one_text : plain_bytes v ≡ plain_bytes w = bytes_exact (plain_bytes v) (plain_bytes w) (then-second numbers bytes rest) in
    sym (plain_back v) ∙ (λ i. plain_from (one_rank i) (one_number i) (one_text i)) ∙ plain_back w

scalar_from : ℕ → List Plain → ScalarValue
scalar_from zero [] = ScalarValue.Packed []
scalar_from zero (v ∷ vs) = ScalarValue.One v
scalar_from (suc n) vs = ScalarValue.Packed vs

scalar_back : (v : ScalarValue) → scalar_from (scalar_rank v) (scalar_fields v) ≡ v
unfolding scalar_from
scalar_back (ScalarValue.One v) = refl
scalar_back (ScalarValue.Packed vs) = refl

pub scalar_exact : IsAntisymmetric scalar_cmp
scalar_exact v w e =
    let ranks : Ordering = nat_cmp (scalar_rank v) (scalar_rank w) in
    let fields : Ordering = slice_cmp plain_cmp (scalar_fields v) (scalar_fields w) in
    let one_rank : scalar_rank v ≡ scalar_rank w = nat_cmp-IsAntisymmetric (scalar_rank v) (scalar_rank w) (then-first ranks fields e) in
    let one_list : scalar_fields v ≡ scalar_fields w = slice_cmp-IsAntisymmetric plain_exact (scalar_fields v) (scalar_fields w) (then-second ranks fields e) in
    sym (scalar_back v) ∙ (λ i. scalar_from (one_rank i) (one_list i)) ∙ scalar_back w

-- ---- the same of the order in which the value that stays comes first

pub pick_total : (pick : Pick) → IsTotalOrder (pick_cmp pick)
pick_total Least = scalar_total
pick_total Greatest = back_total scalar_total

pub pick_exact : (pick : Pick) → IsAntisymmetric (pick_cmp pick)
pick_exact Least v w e = scalar_exact v w e
pick_exact Greatest v w e = sym (scalar_exact w v e)
