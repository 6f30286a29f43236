-- The numbers that words say.
use Rattle.std.proofs.Common.{◌≡◌, ℕ, ◌^◌, ◌<◌, Bool, true, false, true≢false, ◌&&◌, List, nat_lt, if◌then◌else◌, Option, Some, None, Result, Ok, Err, IfSome, bytes_eq, refl, sym, ◌∙◌, ap, subst, arith}
use Rattle.std.specs.Bool.{Decides}
use Rattle.std.specs.Fmt.{decimal}
use Rattle.std.specs.Result.{OkIff, result_ok}
use Rattle.std.specs.Str.Parse.{digits_value}
use Rattle.std.proofs.lemmas.Bool.{and_parts, cond_both, ltb-true}
use Rattle.std.proofs.lemmas.Bool.Decides.{Decides-and, Decides-ltb}
use Rattle.std.proofs.lemmas.Fmt.{decimal_injective, decimal_is_IsNumeral}
use Rattle.std.proofs.lemmas.Slice.Eq.{bytes_eq-Decides}
use Rattle.graph_lines.specs.Reading.{IsNumberText}
use Rattle.text_lines.specs.Answers.{IsSomeOf}
use Rattle.command_line.specs.Commands.{positive_number_of, step_of_word}

-- A fact holds of this number alone or of none, and a test tells which.
told : (Holds : ℕ → Type 0) (number : ℕ) (test : Bool) (result : Option ℕ) → ((other : ℕ) → Holds other → other ≡ number) → Decides test (Holds number) → IsSomeOf Holds result
    → result ≡ (if test then Some number else None)
told Holds number true (Some other) only tells says = ap Some (only other says)
told Holds number true None only tells none = absurd (none number (tells.0 refl))
told Holds number false (Some other) only tells says = absurd (true≢false (sym (tells.1 (subst Holds (only other says) says))))
told Holds number false None only tells none = refl

-- The number whose digits a word is.
value_of : (word : List ℕ) (n : ℕ) → n < 2 ^ 64 → word ≡ decimal n → n ≡ digits_value 10 word
value_of word n few is = sym ((decimal_is_IsNumeral n few).1) ∙ ap (digits_value 10) (sym is)

-- The word is the digits of a number from 1 to 4,294,967,295.
abbrev pub IsCountText : List ℕ → ℕ → Type 0
IsCountText word number = ((word ≡ decimal number) × (0 < number)) × (number < 2 ^ 32)

-- The number that a word says, by what is read of it.
pub number_read : (word : List ℕ) (result : Option ℕ) → IsSomeOf (IsCountText word) result → result ≡ positive_number_of word
unfolding positive_number_of
number_read word result says =
    let value = digits_value 10 word in
    let same = bytes_eq word (decimal value) in
    let some = nat_lt 0 value in
    let few = nat_lt value (2 ^ 32) in
    let front = Decides-and same some (bytes_eq-Decides word (decimal value)) (Decides-ltb 0 value) in
    told (IsCountText word) value (same && some && few) result
    (λ n is. let small = is.1 in value_of word n (omega (arith, small)) is.0.0) (Decides-and (same && some) few front (Decides-ltb value (2 ^ 32))) says

-- The number that is read of a word, where it has 32 bits.
pub narrowed : {E : Type 0} (word : List ℕ) (number : ℕ) (r : Result ℕ E) → word ≡ decimal number → number < 2 ^ 64 → 0 < number → OkIff r (number < 2 ^ 32) number → result_ok r ≡ positive_number_of word
narrowed word number (Ok n) is few some (fits, same) = number_read word (Some n) ((cc (is, same), omega (arith, some, same)), omega (arith, fits, same))
narrowed word number (Err e) is few some big = number_read word None (λ n says.
    let small = says.1 in
    let same = decimal_injective number n few (omega (arith, small)) (sym is ∙ says.0.0) in
    big (omega (arith, same, small)))

-- A number of that form isn't 0.
pub positive : (word : List ℕ) → IfSome (positive_number_of word) (λ n. 0 < n)
unfolding positive_number_of
positive word =
    let value = digits_value 10 word in
    let same = bytes_eq word (decimal value) in
    let some = nat_lt 0 value in
    let few = nat_lt value (2 ^ 32) in
    cond_both (same && some && few) (Some value) None (λ number. IfSome number (λ n. 0 < n))
    (λ e. ltb-true 0 value (and_parts same some (and_parts (same && some) few e).0).1) (λ e. tt)

pub positive_at : (word : List ℕ) (n : ℕ) → Some n ≡ positive_number_of word → 0 < n
positive_at word n e = rw (← e) at (positive word)

-- ---- numbers of steps

small_step : (n : ℕ) → n < 10 ^ 10 → n < 2 ^ 64
small_step n few = omega (arith, few)

-- The number that a word says, by what is read of it.
pub step_read : (word : List ℕ) (result : Option ℕ) → IsSomeOf (IsNumberText word) result → result ≡ step_of_word word
unfolding step_of_word
step_read word result says =
    let value = digits_value 10 word in
    let same = bytes_eq word (decimal value) in
    let few = nat_lt value (10 ^ 10) in
    let decides = Decides-and same few (bytes_eq-Decides word (decimal value)) (Decides-ltb value (10 ^ 10)) in
    told (IsNumberText word) value (same && few) result
    (λ n is. value_of word n (small_step n is.0) is.1)
    (λ e. let both = decides.0 e in (both.1, both.0), λ is. decides.1 (is.1, is.0)) says
