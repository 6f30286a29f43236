-- Numbers with a sign and the texts that say them.
use Rattle.std.proofs.Common.{◌≡◌, ℕ, ℤ, pos, negsuc, FitsSigned, Option, suc, ◌^◌, ◌<◌, List, ◌∷◌, refl, sym, ap, ◌∙◌, subst, arith}
use Rattle.std.specs.Int.{w64}
use Rattle.std.specs.Fmt.{decimal, signed_decimal}
use Rattle.std.specs.Str.Parse.{AllDigits}
use Rattle.std.proofs.lemmas.Str.Parse.{digit_from_value}
use Rattle.std.proofs.lemmas.Int.{ints}
use Rattle.std.proofs.lemmas.Fmt.{decimal_injective, decimal_is_IsNumeral}
use Rattle.text_lines.specs.Answers.{IsSomeOf}
use Rattle.field_writes.proofs.Answered.{answers_same}

pub no_minus : (n : ℕ) (rest : List ℕ) → n < 2 ^ 64 → decimal n ≡ 45 ∷ rest → ⊥
no_minus n rest small e =
    let digits : AllDigits 10 (45 ∷ rest) = subst (AllDigits 10) e (decimal_is_IsNumeral n small).0.1 in
    let range = digit_from_value 45 digits.0 in absurd (omega (arith, range.0))

-- The text is a number's, with its sign.
abbrev pub SaysSigned : List ℕ → ℤ → Type 0
SaysSigned text z = (text ≡ signed_decimal z) × FitsSigned w64 z

-- After a minus comes a number above zero.
pub behind_minus : (text digits : List ℕ) → text ≡ 45 ∷ digits → (z : ℤ) → SaysSigned text z → (below : ℕ) × (z ≡ negsuc below) × (digits ≡ decimal (suc below)) × (below < 2 ^ 63)
behind_minus text digits e (pos n) q = absurd (no_minus n digits (omega (arith, ints, q.1)) (sym q.0 ∙ e))
behind_minus text digits e (negsuc n) q =
    let two : 45 ∷ digits ≡ 45 ∷ decimal (suc n) = sym e ∙ q.0 in
    let same : digits ≡ decimal (suc n) = cc two in
    (n, refl, same, omega (arith, ints, q.1))

pub no_negative : (text digits : List ℕ) → text ≡ 45 ∷ digits → ((n : ℕ) → (digits ≡ decimal n) × (n < 2 ^ 64) → ⊥) → (z : ℤ) → SaysSigned text z → ⊥
no_negative text digits e none z q =
    let b = behind_minus text digits e z q in none (suc b.0) (b.2, omega (arith, b.3))

pub negative_is : (text digits : List ℕ) (size : ℕ) (answer : Option ℤ) → text ≡ 45 ∷ digits → digits ≡ decimal size → size < 2 ^ 64
    → IsSomeOf (λ z. (below : ℕ) × (size ≡ suc below) × (z ≡ negsuc below) × (below < 2 ^ 63)) answer → IsSomeOf (SaysSigned text) answer
negative_is text digits size answer e d small h =
    answers_same (λ z. (below : ℕ) × (size ≡ suc below) × (z ≡ negsuc below) × (below < 2 ^ 63)) (SaysSigned text) answer
    (λ z p. subst (SaysSigned text) (sym p.2) (e ∙ ap (λ (l : List ℕ). 45 ∷ l) (d ∙ ap decimal p.1), record { sfits = omega (arith, ints, p.3) }))
    (λ z q. (
    let b = behind_minus text digits e z q in
    (b.0, decimal_injective size (suc b.0) small (omega (arith, b.3)) (sym d ∙ b.2), b.1, b.3))) h

-- Without a minus the number isn't below zero.
without_minus : (text : List ℕ) → ((rest : List ℕ) → text ≡ 45 ∷ rest → ⊥) → (z : ℤ) → SaysSigned text z → (n : ℕ) × (z ≡ pos n) × (text ≡ decimal n) × (n < 2 ^ 63)
without_minus text none (pos n) q = (n, refl, q.0, omega (arith, ints, q.1))
without_minus text none (negsuc n) q = absurd (none (decimal (suc n)) q.0)

pub positive_is : (text : List ℕ) (size : ℕ) (answer : Option ℤ) → ((rest : List ℕ) → text ≡ 45 ∷ rest → ⊥) → text ≡ decimal size → size < 2 ^ 64
    → IsSomeOf (λ z. (z ≡ pos size) × (size < 2 ^ 63)) answer → IsSomeOf (SaysSigned text) answer
positive_is text size answer none d small h =
    answers_same (λ z. (z ≡ pos size) × (size < 2 ^ 63)) (SaysSigned text) answer
    (λ z p. subst (SaysSigned text) (sym p.0) (d, record { sfits = omega (arith, ints, p.1) }))
    (λ z q. (
    let w = without_minus text none z q in
    let same : size ≡ w.0 = decimal_injective size w.0 small (omega (arith, w.3)) (sym d ∙ w.2) in
    (w.1 ∙ ap pos (sym same), omega (arith, same, w.3)))) h
