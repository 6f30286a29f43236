-- The order of two lists, place by place.
use Rattle.std.proofs.Common.{◌≡◌, ℕ, zero, suc, List, [], ◌∷◌, length, map, drop, Ordering, Less, Greater, nat_cmp, min, refl, ◌∙◌, arith}
use Rattle.std.specs.Cmp.Lexicographic.{slice_cmp}
use Rattle.bag_model.specs.Scalars.{plain_cmp}
use Rattle.scalar_types.specs.declared.scalars.Scalar.{Scalar}
use Rattle.scalar_types.specs.Scalars.{plain_of}
use Rattle.std.specs.Cmp.{nat_cmp_is}
use Rattle.std.proofs.lemmas.Bool.Decides.{nat_tests}

abbrev pub lists_cmp : List Scalar → List Scalar → Ordering
lists_cmp these those = slice_cmp plain_cmp (map plain_of these) (map plain_of those)

below_next : (n : ℕ) → Less ≡ nat_cmp zero (suc n)
below_next n = nat_cmp_is zero (suc n) Less (omega arith)

above_zero : (n : ℕ) → Greater ≡ nat_cmp (suc n) zero
above_zero n = nat_cmp_is (suc n) zero Greater (omega arith)

one_more : (m n : ℕ) → nat_cmp m n ≡ nat_cmp (suc m) (suc n)
one_more m n = grind (arith, nat_tests)

-- where one list ends their lengths decide
pub lists_cmp-ends : (n : ℕ) (xs ys : List Scalar) → n ≡ min (length xs) (length ys) → lists_cmp (drop n xs) (drop n ys) ≡ nat_cmp (length xs) (length ys)
lists_cmp-ends zero [] [] h = refl
lists_cmp-ends zero [] (y ∷ ys) h = below_next (length ys)
lists_cmp-ends zero (x ∷ xs) [] h = above_zero (length xs)
lists_cmp-ends zero (x ∷ xs) (y ∷ ys) h = absurd (omega arith)
lists_cmp-ends (suc n) [] ys h = absurd (omega arith)
lists_cmp-ends (suc n) (x ∷ xs) [] h = absurd (omega arith)
lists_cmp-ends (suc n) (x ∷ xs) (y ∷ ys) h = lists_cmp-ends n xs ys (omega arith) ∙ one_more (length xs) (length ys)
