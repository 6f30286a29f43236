-- Bytes that a line keeps as they are, and the lines of a text of such lines.
use Rattle.std.proofs.Common.{◌≡◌, ℕ, zero, suc, ◌+◌, ◌-◌, ◌^◌, ◌<◌, ◌≤◌, Bool, true, false, cond, not, ◌&&◌, ◌||◌, ◌==◌, List, [], ◌∷◌, ◌++◌, length, map, take, drop, get_or, refl, ◌∙◌, ap, append_assoc, arith}
use Rattle.std.specs.Prelude.{nat_le, nat_lt}
use Rattle.std.proofs.Math.Dec.{eqb, eqb-suc-zero}
use Rattle.std.proofs.lemmas.Bool.{ne_eqb, and_parts}
use Rattle.std.proofs.lemmas.Bool.Decides.{nat_tests}
use Rattle.std.proofs.lemmas.Fmt.{decimal_is_IsNumeral}
use Rattle.std.proofs.lemmas.List.Splits.{slice_split_at, length-slice_split}
use Rattle.std.proofs.lemmas.Str.{IsUtf8-from_ascii}
use Rattle.std.proofs.lemmas.Str.Parse.{digit_from_value}
use Rattle.std.specs.Fmt.{decimal}
use Rattle.std.specs.List.{All, AllByRecursion, list_all, slice_split, join_with_byte}
use Rattle.std.specs.Str.{IsUtf8}
use Rattle.std.specs.Str.Lines.{lines, lines_of_parts, strip_carriage_return}
use Rattle.std.specs.Str.Parse.{AllDigits}
use Rattle.context_model.specs.declared.Form.TheVariants.{One, Two}
use Rattle.text_lines.specs.Lines.{Line, numbered, is_skipped, kept, lines_of}
use Rattle.graph_lines.specs.Statements.{Statement, Start, Recv, Set, Branch, Forward, Trim, Join, Service, Step, Show}
use Rattle.graph_lines.specs.Forms.{statement_words}
use Rattle.load_maker.specs.Loads.{statements_text}

-- The byte is a space or a visible one, or at least not one that ends a line.
abbrev pub IsClean : ℕ → Type 0
IsClean byte = (32 ≤ byte) × (byte < 128)

abbrev pub AreClean : List ℕ → Type 0
AreClean bytes = AllByRecursion IsClean bytes

-- ---- which texts are clean

abbrev pub is_clean : ℕ → Bool
is_clean byte = nat_le 32 byte && nat_lt byte 128

byte_clean : (byte : ℕ) → is_clean byte ≡ true → IsClean byte
byte_clean byte h =
    let parts = and_parts (nat_le 32 byte) (nat_lt byte 128) h in
    (grind (arith, nat_tests, parts.0), grind (arith, nat_tests, parts.1))

pub clean_word : (bytes : List ℕ) → list_all is_clean bytes ≡ true → AreClean bytes
clean_word [] h = tt
clean_word (byte ∷ bytes) h =
    let parts = and_parts (is_clean byte) (list_all is_clean bytes) h in
    (byte_clean byte parts.0, clean_word bytes parts.1)

pub clean_append : (a b : List ℕ) → AreClean a → AreClean b → AreClean (a ++ b)
clean_append [] b p q = q
clean_append (x ∷ a) b p q = (p.0, clean_append a b p.1 q)

clean_digits : (digits : List ℕ) → AllDigits 10 digits → AreClean digits
clean_digits [] h = tt
clean_digits (d ∷ ds) h = let range = digit_from_value d h.0 in ((omega (arith, range), omega (arith, range)), clean_digits ds h.1)

pub clean_number : (n : ℕ) → n < 2 ^ 64 → AreClean (decimal n)
clean_number n small = clean_digits (decimal n) (decimal_is_IsNumeral n small).0.1

pub clean_joined : (words : List (List ℕ)) → AllByRecursion AreClean words → AreClean (join_with_byte 32 words)
clean_joined [] h = tt
clean_joined (a ∷ []) h = h.0
clean_joined (a ∷ b ∷ words) h = clean_append a (32 ∷ join_with_byte 32 (b ∷ words)) h.0 ((omega arith, omega arith), clean_joined (b ∷ words) h.1)

-- ---- what a line keeps

small : (bytes : List ℕ) → AreClean bytes → (i : ℕ) → get_or bytes i 0 < 128
small [] h i = omega arith
small (b ∷ bs) h zero = h.0.1
small (b ∷ bs) h (suc i) = small bs h.1 i

pub clean_utf8 : (bytes : List ℕ) → AreClean bytes → IsUtf8 bytes
clean_utf8 bytes h = IsUtf8-from_ascii bytes (small bytes h)

no_feed : (bytes : List ℕ) → AreClean bytes → All (λ b. eqb b 10 ≡ false) bytes
no_feed [] h k d less = absurd (omega (arith, less))
no_feed (b ∷ bs) h zero d less = ne_eqb b 10 (λ e. let low = h.0.0 in omega (arith, e, low))
no_feed (b ∷ bs) h (suc k) d less = no_feed bs h.1 k d (omega (arith, less))

no_return : (bytes : List ℕ) → AreClean bytes → (k : ℕ) → get_or bytes k 0 ≡ 13 → ⊥
no_return [] h k e = omega (arith, e)
no_return (b ∷ bs) h zero e = let low = h.0.0 in omega (arith, e, low)
no_return (b ∷ bs) h (suc k) e = no_return bs h.1 k e

whole : (bytes : List ℕ) → AreClean bytes → strip_carriage_return bytes ≡ bytes
whole bytes h =
    ap (λ t. cond t (take (length bytes - 1) bytes) bytes) (ne_eqb (get_or bytes (length bytes - 1) 0) 13 (no_return bytes h (length bytes - 1)))

part_before : (part : List ℕ) (parts : List (List ℕ)) → 0 < length parts → lines_of_parts (part ∷ parts) ≡ strip_carriage_return part ∷ lines_of_parts parts
part_before part [] some = absurd (omega (arith, some))
part_before part (next ∷ more) some = refl

line_before : (line rest : List ℕ) → AreClean line → lines (line ++ 10 ∷ rest) ≡ line ∷ lines rest
line_before line rest h =
    let p : ℕ → Bool = λ b. eqb b 10 in
    ap lines_of_parts (slice_split_at p line 10 rest (no_feed line h) refl)
    ∙ part_before line (slice_split p rest) (omega (arith, length-slice_split p rest))
    ∙ ap (λ (first : List ℕ). first ∷ lines rest) (whole line h)

-- ---- the lines of statements

-- The words of a statement, with one space between two of them.
abbrev pub words_text : Statement → List ℕ
words_text statement = join_with_byte 32 (statement_words statement)

-- The words of each statement are clean.
abbrev pub SayClean : List Statement → Type 0
SayClean statements = AllByRecursion (λ statement. AreClean (words_text statement)) statements

text-more : (line : Statement) (rest : List Statement) → statements_text (line ∷ rest) ≡ words_text line ++ 10 ∷ statements_text rest
unfolding statements_text
text-more line rest = append_assoc (words_text line) (10 ∷ []) (statements_text rest)

text-none : statements_text [] ≡ []
unfolding statements_text
text-none = refl

each_line : (statements : List Statement) → SayClean statements → lines (statements_text statements) ≡ map words_text statements
each_line [] h = ap lines text-none
each_line (line ∷ rest) h =
    ap lines (text-more line rest)
    ∙ line_before (words_text line) (statements_text rest) h.0
    ∙ ap (λ (more : List (List ℕ)). words_text line ∷ more) (each_line rest h.1)

not_skipped : (b : ℕ) (rest : List ℕ) → (b == 35) ≡ false → is_skipped (b ∷ rest) ≡ false
not_skipped b rest h = ap (λ (t : Bool). t || (b == 35)) (eqb-suc-zero (length rest)) ∙ h

seen : (statement : Statement) → is_skipped (words_text statement) ≡ false
seen (Service One name view) = not_skipped 115 (drop 1 (words_text (Service One name view))) refl
seen (Service Two name view) = not_skipped 115 (drop 1 (words_text (Service Two name view))) refl
seen (Step number (Start name)) = not_skipped 115 (drop 1 (words_text (Step number (Start name)))) refl
seen (Step number (Recv name hex)) = not_skipped 114 (drop 1 (words_text (Step number (Recv name hex)))) refl
seen (Step number (Set parent path write)) = not_skipped 115 (drop 1 (words_text (Step number (Set parent path write)))) refl
seen (Step number (Branch parent)) = not_skipped 98 (drop 1 (words_text (Step number (Branch parent)))) refl
seen (Step number (Forward parent name)) = not_skipped 102 (drop 1 (words_text (Step number (Forward parent name)))) refl
seen (Step number (Trim parent budget)) = not_skipped 116 (drop 1 (words_text (Step number (Trim parent budget)))) refl
seen (Step number (Join parents)) = not_skipped 106 (drop 1 (words_text (Step number (Join parents)))) refl
seen (Show step) = not_skipped 115 (drop 1 (words_text (Show step))) refl

all_kept : (number : ℕ) (statements : List Statement) → kept (numbered number (map words_text statements)) ≡ numbered number (map words_text statements)
all_kept number [] = refl
all_kept number (line ∷ rest) =
    ap (λ (b : Bool). cond (not b) ((number, words_text line) ∷ kept (numbered (number + 1) (map words_text rest))) (kept (numbered (number + 1) (map words_text rest)))) (seen line)
    ∙ ap (λ (more : List Line). (number, words_text line) ∷ more) (all_kept (number + 1) rest)

-- The lines of a text of clean statements are those of the statements.
pub lines_said : (statements : List Statement) → SayClean statements → lines_of (statements_text statements) ≡ numbered 1 (map words_text statements)
unfolding lines_of
lines_said statements h = ap (λ (every : List (List ℕ)). kept (numbered 1 every)) (each_line statements h) ∙ all_kept 1 statements
