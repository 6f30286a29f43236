-- Numbers and the digits that say them.
use Rattle.std.proofs.Common.{◌≡◌, ℕ, ◌^◌, ◌<◌, List, [], ◌∷◌, ◌++◌, map, refl, arith}
use Rattle.std.specs.Fmt.{decimal}
use Rattle.std.specs.List.{AllByRecursion}
use Rattle.std.proofs.lemmas.Fmt.{decimal_injective}
use Rattle.graph_lines.specs.Forms.{IsNumber}
use Rattle.text_lines.specs.Words.{HasNoSpace}
use Rattle.text_lines.proofs.Numbers.{number_free}
use Rattle.text_lines.proofs.Separated.{same_cut}

pub small_number : (n : ℕ) → IsNumber n → n < 2 ^ 64
small_number n h = omega (arith, h)

pub same_number : (m n : ℕ) → IsNumber m → IsNumber n → decimal m ≡ decimal n → m ≡ n
same_number m n p q e = decimal_injective m n (small_number m p) (small_number n q) e

pub number_no_space : (n : ℕ) → IsNumber n → HasNoSpace (decimal n)
number_no_space n h = number_free 32 n (omega arith) (small_number n h)

-- Their text determines a number and what follows it.
pub one_number : (m n : ℕ) (x y : List ℕ) → IsNumber m → IsNumber n → decimal m ++ 32 ∷ x ≡ decimal n ++ 32 ∷ y → (m ≡ n) × (x ≡ y)
one_number m n x y p q e =
    let cut = same_cut 32 (decimal m) (decimal n) x y (number_no_space m p) (number_no_space n q) e in
    (same_number m n p q cut.0, cut.1)

pub numbers_free : (numbers : List ℕ) → AllByRecursion IsNumber numbers → AllByRecursion HasNoSpace (map decimal numbers)
numbers_free [] h = tt
numbers_free (n ∷ ns) h = (number_no_space n h.0, numbers_free ns h.1)

pub same_numbers : (a b : List ℕ) → AllByRecursion IsNumber a → AllByRecursion IsNumber b → map decimal a ≡ map decimal b → a ≡ b
same_numbers [] [] p q e = refl
same_numbers [] (n ∷ b) p q e = absurd (cc e)
same_numbers (m ∷ a) [] p q e = absurd (cc e)
same_numbers (m ∷ a) (n ∷ b) p q e =
    let first : decimal m ≡ decimal n = cc e in
    let more : map decimal a ≡ map decimal b = cc e in
    let one = same_number m n p.0 q.0 first in
    let rest = same_numbers a b p.1 q.1 more in
    cc (one, rest)
