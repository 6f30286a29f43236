-- What each way of the scan finds at the beginning of some bytes.
use Rattle.std.proofs.Common.{◌≡◌, ℕ, zero, suc, ◌+◌, ◌*◌, ◌-◌, ◌<◌, ◌≤◌, Bool, true, false, None, Some, List, [], ◌∷◌, ◌++◌, length, get_or, take, drop, refl, sym, ap, ◌∙◌, subst, inl, inr, arith, append_assoc, add-zero}
use Rattle.std.specs.Char.{is_ascii_digit}
use Rattle.std.specs.List.{AllPass, take_while, fold}
use Rattle.std.proofs.Math.Seq.{take-suc}
use Rattle.std.proofs.lemmas.Bool.Decides.{nat_tests}
use Rattle.std.proofs.lemmas.List.{get_or-take, get_or-drop, length-take-le, length-drop, take-append-drop}
use Rattle.std.proofs.lemmas.List.Elements.{All-tail}
use Rattle.std.proofs.lemmas.List.Sums.{fold-append, fold_more}
use Rattle.bdl_lexer.specs.declared.TheConstants.{NUMBER_MAX}
use Rattle.bdl_lexer.specs.declared.TokenClass.TheVariants.{Word, Number, Text, Sign}
use Rattle.bdl_lexer.specs.Bytes.{is_letter, is_word_byte, is_text_byte, is_line_byte, is_sign}
use Rattle.bdl_lexer.specs.Faults.{IsOpenString, IsLargeNumber}
use Rattle.bdl_lexer.specs.Scan.{decimal_value, IsNumberToken, EndsLine, HasNoClose}
use Rattle.bdl_lexer.specs.Lexer.{StandsFirst, ClosesAt}
use Rattle.bdl_lexer.proofs.Runs.{StopsAt, IsRun, run_of}
use Rattle.bdl_lexer.proofs.Longest.{letter_in_word, word_longest, number_longest, text_longest, sign_longest}

-- a run whose first byte passes isn't empty
run_some : (test : ℕ → Bool) (first : ℕ) (more : List ℕ) (n : ℕ) → test first ≡ true → IsRun test n (first ∷ more) → 0 < n
run_some test first more zero passes run = absurd (let clash : true ≡ false = sym passes ∙ run.stops in cc)
run_some test first more (suc n) passes run = omega arith

pub sign_stands : (s : List ℕ) → 0 < length s → is_sign (get_or s 0 0) ≡ true → StandsFirst (Some (Sign (get_or s 0 0))) 1 s
sign_stands [] some e = absurd (omega arith)
sign_stands (b ∷ more) some e =
    record { some = omega arith; within = omega arith; piece = record { longest = sign_longest b (b ∷ []) more (record { is = refl; sign = e }); in_range = tt } }

word_at : (first : ℕ) (more : List ℕ) (n : ℕ) → is_letter first ≡ true → IsRun is_word_byte n (first ∷ more) → 0 < n → StandsFirst (Some Word) n (first ∷ more)
word_at first more zero e run some = absurd (omega arith)
word_at first more (suc n) e run some = record {
  some = some;
  within = run.within;
  piece = record {
    longest = word_longest (first ∷ take n more) (drop n more) (record { first = first; more = take n more; is = refl; letter = e; each = All-tail (λ b. is_word_byte b ≡ true) first (take n more) run.each }) run.stops;
    in_range = tt;
  };
}

pub word_stands : (s : List ℕ) (n : ℕ) → 0 < length s → is_letter (get_or s 0 0) ≡ true → n ≡ length (take_while is_word_byte s) → StandsFirst (Some Word) n s
word_stands [] n some e len = absurd (omega arith)
word_stands (first ∷ more) n some e len =
    let run = run_of is_word_byte (first ∷ more) n len in
    word_at first more n e run (run_some is_word_byte first more n (letter_in_word first e) run)

pub digits_pass : (s : List ℕ) (n : ℕ) → n ≡ length (take_while is_ascii_digit s) → AllPass is_ascii_digit (take n s)
digits_pass s n len = (run_of is_ascii_digit s n len).each

record IsDigits (s : List ℕ) (n : ℕ) : Type 0 where
  some : 0 < n
  within : n ≤ length s
  number : IsNumberToken (decimal_value (take n s)) (take n s)
  stops : StopsAt is_ascii_digit (drop n s)

digits_of : (s : List ℕ) (n : ℕ) → 0 < length s → is_ascii_digit (get_or s 0 0) ≡ true → n ≡ length (take_while is_ascii_digit s) → IsDigits s n
digits_of [] n some e len = absurd (omega arith)
digits_of (first ∷ more) n some e len =
    let run = run_of is_ascii_digit (first ∷ more) n len in
    let positive = run_some is_ascii_digit first more n e run in
    let full = length-take-le n (first ∷ more) run.within in
    record { some = positive; within = run.within; number = record { nonempty = omega arith; each = run.each; value_is = refl }; stops = run.stops }

pub number_stands : (s : List ℕ) (n value : ℕ) → 0 < length s → is_ascii_digit (get_or s 0 0) ≡ true → n ≡ length (take_while is_ascii_digit s) → value ≡ decimal_value (take n s) → value ≤ NUMBER_MAX → StandsFirst (Some (Number value)) n s
number_stands s n value some e len is small =
    let digits = digits_of s n some e len in
    record {
      some = digits.some;
      within = digits.within;
      piece = record {
        longest = number_longest value (take n s) (drop n s) (record { nonempty = digits.number.nonempty; each = digits.number.each; value_is = is }) digits.stops;
        in_range = small;
      };
    }

pub number_large : (s : List ℕ) (n : ℕ) → 0 < length s → is_ascii_digit (get_or s 0 0) ≡ true → n ≡ length (take_while is_ascii_digit s) → NUMBER_MAX < decimal_value (take n s) → IsLargeNumber s
number_large s n some e len large =
    let digits = digits_of s n some e len in
    record {
      value = decimal_value (take n s);
      digits = take n s;
      after = drop n s;
      is = sym (take-append-drop n s);
      longest = number_longest (decimal_value (take n s)) (take n s) (drop n s) digits.number digits.stops;
      large = large;
    }

grows : (a : ℕ) (xs : List ℕ) → a ≤ fold (λ value digit. 10 * value + (digit - 48)) a xs
grows a [] = omega arith
grows a (x ∷ xs) = let more = grows (10 * a + (x - 48)) xs in omega arith

-- what the first digits spell is no more than what all of them spell
pub front_no_more : (xs : List ℕ) (i : ℕ) → decimal_value (take i xs) ≤ decimal_value xs
front_no_more xs i =
    let f : ℕ → ℕ → ℕ = λ value digit. 10 * value + (digit - 48) in
    let whole : fold f 0 (take i xs ++ drop i xs) ≡ decimal_value xs = ap (fold f 0) (take-append-drop i xs) in
    let parts : fold f 0 (take i xs ++ drop i xs) ≡ fold f (decimal_value (take i xs)) (drop i xs) = fold-append f 0 (take i xs) (drop i xs) in
    let more = grows (decimal_value (take i xs)) (drop i xs) in
    omega arith

pub one_more_digit : (xs : List ℕ) (i value : ℕ) → i < length xs → value ≡ decimal_value (take i xs) → NUMBER_MAX < 10 * value + (get_or xs i 0 - 48) → NUMBER_MAX < decimal_value xs
one_more_digit xs i value short is large =
    let next = fold_more (λ value digit. 10 * value + (digit - 48)) 0 xs i 0 short in
    let most = front_no_more xs (i + 1) in
    omega arith

text_at : (q : ℕ) (more : List ℕ) (n len : ℕ) → q ≡ 34 → IsRun is_text_byte n more → n < length more → get_or more n 0 ≡ 34 → len ≡ suc (suc n) → StandsFirst (Some Text) len (q ∷ more)
text_at q more n len is run short close e =
    let shape : take (suc n) more ≡ take n more ++ 34 ∷ [] = take-suc more n 0 short ∙ ap (λ b. take n more ++ b ∷ []) close in
    let whole : take len (q ∷ more) ≡ 34 ∷ (take n more ++ 34 ∷ []) = ap (λ k. take k (q ∷ more)) e ∙ (λ i. is i ∷ shape i) in
    record {
      some = omega arith;
      within = omega arith;
      piece = record { longest = text_longest (take len (q ∷ more)) (drop len (q ∷ more)) (record { inner = take n more; is = whole; each = run.each }); in_range = tt };
    }

pub text_stands : (s : List ℕ) (n : ℕ) → 0 < length s → get_or s 0 0 ≡ 34 → n ≡ length (take_while is_text_byte (drop 1 s)) → 1 + n < length s → get_or s (1 + n) 0 ≡ 34 → StandsFirst (Some Text) (1 + n + 1) s
text_stands [] n some first len short close = absurd (omega arith)
text_stands (q ∷ more) n some first len short close =
    let next : 1 + n ≡ suc n = omega arith in
    let close' : get_or more n 0 ≡ 34 = ap (λ k. get_or (q ∷ more) k 0) (sym next) ∙ close in
    text_at q more n (1 + n + 1) first (run_of is_text_byte more n len) (omega arith) close' (omega arith)

text_ends : (xs : List ℕ) → StopsAt is_text_byte xs → (0 < length xs → get_or xs 0 0 ≡ 34 → ⊥) → EndsLine xs
text_ends [] stops none = tt
text_ends (b ∷ xs) stops none =
    let other : b ≡ 34 → ⊥ = none (omega arith) in
    grind (arith, nat_tests)

pub string_open : (s : List ℕ) (n : ℕ) → 0 < length s → get_or s 0 0 ≡ 34 → n ≡ length (take_while is_text_byte (drop 1 s)) → (1 + n < length s → get_or s (1 + n) 0 ≡ 34 → ⊥) → IsOpenString s
string_open [] n some first len none = absurd (omega arith)
string_open (q ∷ more) n some first len none =
    let run = run_of is_text_byte more n len in
    record {
      inner = take n more;
      after = drop n more;
      is = λ i. first i ∷ sym (take-append-drop n more) i;
      each = run.each;
      ends = text_ends (drop n more) run.stops (λ left close.
          let len_left = length-drop n more in
          let here : get_or (drop n more) 0 0 ≡ get_or more n 0 = get_or-drop n more 0 0 ∙ ap (λ k. get_or more k 0) (add-zero n) in
          let next : 1 + n ≡ suc n = omega arith in
          none (omega arith) (ap (λ k. get_or (q ∷ more) k 0) next ∙ sym here ∙ close));
    }

line_ends : (xs : List ℕ) → StopsAt is_line_byte xs → EndsLine xs
line_ends [] stops = tt
line_ends (b ∷ xs) stops = grind (arith, nat_tests)

line_at : (a b : ℕ) (more : List ℕ) (n len : ℕ) → a ≡ 47 → b ≡ 47 → IsRun is_line_byte n more → len ≡ suc (suc n) → StandsFirst None len (a ∷ b ∷ more)
line_at a b more n len p q run e =
    let whole : take len (a ∷ b ∷ more) ≡ 47 ∷ 47 ∷ take n more = ap (λ k. take k (a ∷ b ∷ more)) e ∙ (λ i. p i ∷ q i ∷ take n more) in
    let left : drop len (a ∷ b ∷ more) ≡ drop n more = ap (λ k. drop k (a ∷ b ∷ more)) e in
    let short = run.within in
    record {
      some = omega arith;
      within = omega arith;
      piece = inr (inl (record { inner = take n more; is = whole; each = run.each; ends = subst EndsLine (sym left) (line_ends (drop n more) run.stops) }));
    }

pub line_comment_stands : (s : List ℕ) (n : ℕ) → 2 ≤ length s → get_or s 0 0 ≡ 47 → get_or s 1 0 ≡ 47 → n ≡ length (take_while is_line_byte (drop 2 s)) → StandsFirst None (2 + n) s
line_comment_stands [] n some p q len = absurd (omega arith)
line_comment_stands (a ∷ []) n some p q len = absurd (omega arith)
line_comment_stands (a ∷ b ∷ more) n some p q len = line_at a b more n (2 + n) p q (run_of is_line_byte more n len) (omega arith)

pub closes_at : (s : List ℕ) (at : ℕ) → at + 1 < length s → get_or s at 0 ≡ 42 → get_or s (at + 1) 0 ≡ 47 → ((k : ℕ) → k < at → get_or s k 0 ≡ 42 → get_or s (k + 1) 0 ≡ 47 → ⊥) → ClosesAt s at
closes_at s at within star slash none =
    let full = length-take-le (at + 1) s (omega arith) in
    record {
      within = within;
      star_is = star;
      slash_is = slash;
      first = λ k short p q.
          let below : k < at + 1 = omega arith in
          let next : k + 1 < at + 1 = omega arith in
          none k (omega arith) (sym (get_or-take (at + 1) s k 0 below) ∙ p) (sym (get_or-take (at + 1) s (k + 1) 0 next) ∙ q);
    }

block_at : (a b : ℕ) (more : List ℕ) (at len : ℕ) → a ≡ 47 → b ≡ 42 → ClosesAt more at → len ≡ suc (suc (suc (suc at))) → StandsFirst None len (a ∷ b ∷ more)
block_at a b more at len p q closes e =
    let within = closes.within in
    let star_next : take (suc at) more ≡ take at more ++ 42 ∷ [] = take-suc more at 0 (omega arith) ∙ ap (λ c. take at more ++ c ∷ []) closes.star_is in
    let suc_at : at + 1 ≡ suc at = omega arith in
    let slash_is : get_or more (suc at) 0 ≡ 47 = ap (λ k. get_or more k 0) (sym suc_at) ∙ closes.slash_is in
    let both : take (suc (suc at)) more ≡ take at more ++ 42 ∷ 47 ∷ [] =
    take-suc more (suc at) 0 (omega arith) ∙ (λ i. star_next i ++ slash_is i ∷ []) ∙ append_assoc (take at more) (42 ∷ []) (47 ∷ []) in
    let whole : take len (a ∷ b ∷ more) ≡ 47 ∷ 42 ∷ (take at more ++ 42 ∷ 47 ∷ []) =
    ap (λ k. take k (a ∷ b ∷ more)) e ∙ (λ i. p i ∷ q i ∷ both i) in
    record {
      some = omega arith;
      within = omega arith;
      piece = inr (inr (record { inner = take at more; is = whole; first = subst HasNoClose (ap (λ k. take k more) suc_at ∙ star_next) closes.first }));
    }

pub block_comment_stands : (s : List ℕ) (at : ℕ) → 2 ≤ length s → get_or s 0 0 ≡ 47 → get_or s 1 0 ≡ 42 → ClosesAt (drop 2 s) at → StandsFirst None (at + 4) s
block_comment_stands [] at some p q closes = absurd (omega arith)
block_comment_stands (a ∷ []) at some p q closes = absurd (omega arith)
block_comment_stands (a ∷ b ∷ more) at some p q closes = block_at a b more at (at + 4) p q closes (omega arith)
