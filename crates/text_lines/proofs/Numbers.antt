-- Texts of numbers have no space, and are those of one number.
use Rattle.std.proofs.Common.{◌≡◌, ℕ, ◌^◌, ◌<◌, ◌++◌, ◌∷◌, List, [], refl, sym, ◌∙◌, arith}
use Rattle.std.specs.Fmt.{decimal}
use Rattle.std.specs.Str.Parse.{AllDigits}
use Rattle.std.proofs.lemmas.Fmt.{decimal_injective, decimal_is_IsNumeral}
use Rattle.std.proofs.lemmas.Str.Parse.{digit_from_value}
use Rattle.text_lines.specs.Words.{IsFree, HasNoSpace, IsCut, IsNumberBelow, NumberBelowThen}
use Rattle.text_lines.proofs.Separated.{free_cons, same_cut}

-- Digits have no byte below the first of them.
pub digits_free : (sep : ℕ) (digits : List ℕ) → sep < 48 → AllDigits 10 digits → IsFree sep digits
digits_free sep [] low h = refl
digits_free sep (d ∷ ds) low h =
    let range = digit_from_value d h.0 in
    free_cons sep d ds (λ (e : d ≡ sep). omega (arith, range, e, low)) (digits_free sep ds low h.1)

pub number_free : (sep n : ℕ) → sep < 48 → n < 2 ^ 64 → IsFree sep (decimal n)
number_free sep n low small = digits_free sep (decimal n) low (decimal_is_IsNumeral n small).0.1

pub number_no_space : (n : ℕ) → n < 2 ^ 64 → HasNoSpace (decimal n)
number_no_space n small = number_free 32 n (omega arith) small

-- A text that begins with a number and a space does so in one way.
pub one_number : (m n : ℕ) (x y : List ℕ) → m < 2 ^ 64 → n < 2 ^ 64 → decimal m ++ 32 ∷ x ≡ decimal n ++ 32 ∷ y → (m ≡ n) × (x ≡ y)
one_number m n x y p q e =
    let cut = same_cut 32 (decimal m) (decimal n) x y (number_no_space m p) (number_no_space n q) e in
    (decimal_injective m n p q cut.0, cut.1)

module _ (below : ℕ) (small : below < 2 ^ 64) where
  below_small : (n : ℕ) → n < below → n < 2 ^ 64
  below_small n less = omega (arith, less, small)

  -- No other number below the bound is at the start of a text, and none where its first word is
  -- none.
  pub one_taken : (text : List ℕ) (n : ℕ) (rest : List ℕ) → NumberBelowThen below text n rest
      → (m : ℕ) (other : List ℕ) → NumberBelowThen below text m other → (m ≡ n) × (other ≡ rest)
  one_taken text n rest p m other q =
      one_number m n other rest (below_small m q.0) (below_small n p.0) (sym q.1 ∙ p.1)

  pub none_taken : (text word rest : List ℕ) → HasNoSpace word → IsCut text word rest → ((n : ℕ) → IsNumberBelow below word n → ⊥)
      → (m : ℕ) (other : List ℕ) → NumberBelowThen below text m other → ⊥
  none_taken text word rest free cut none m other q =
      none m (q.0, (same_cut 32 word (decimal m) rest other free (number_no_space m (below_small m q.0)) (sym cut ∙ q.1)).0)
