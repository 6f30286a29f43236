-- The bytes of a line, and texts of such lines that are cut into lines again.
use Rattle.std.proofs.Common.{◌≡◌, ◌⊎◌, inl, inr, ℕ, ◌+◌, ◌-◌, ◌^◌, ◌<◌, ◌==◌, Bool, true, false, not, ◌||◌, if◌then◌else◌, List, [], ◌∷◌, ◌++◌, length, take, slice_index, refl, ◌∙◌, ap, append_assoc, arith}
use Rattle.std.specs.Fmt.{decimal}
use Rattle.std.specs.List.{All, AllByRecursion, slice_split}
use Rattle.std.specs.Str.Lines.{lines, lines_of_parts, strip_carriage_return}
use Rattle.std.specs.Str.Parse.{AllDigits}
use Rattle.std.proofs.lemmas.Bool.{cases_lt, ne_eqb, cond-false}
use Rattle.std.proofs.lemmas.Fmt.{decimal_is_IsNumeral}
use Rattle.std.proofs.lemmas.List.{get_or_past}
use Rattle.std.proofs.lemmas.List.Elements.{All-nil, All-cons, All-append, All-weaker}
use Rattle.std.proofs.lemmas.List.Splits.{slice_split_at, length-slice_split}
use Rattle.std.proofs.lemmas.Str.Parse.{digit_from_value}
use Rattle.text_lines.specs.Lines.{is_skipped, kept, lines_of, numbered}
use Rattle.text_carrier.specs.Pieces.{data_text, line_in_piece_form}
use Rattle.text_carrier.specs.Carrying.{text_of_lines}
use Rattle.text_carrier.proofs.Standard.{IsPlain, data_plain}

-- A byte that ends no line: zero, or one from the space on.
abbrev pub IsLineByte : ℕ → Type 0
IsLineByte byte = (byte ≡ 0) ⊎ (31 < byte)

digits_of_line : (digits : List ℕ) → AllDigits 10 digits → All IsLineByte digits
digits_of_line [] h = All-nil IsLineByte
digits_of_line (d ∷ ds) h =
    let range = digit_from_value d h.0 in
    let behind : 31 < d = omega (arith, range) in
    All-cons IsLineByte d ds (inr behind) (digits_of_line ds h.1)

number_of_line : (n : ℕ) → n < 10 ^ 7 → All IsLineByte (decimal n)
number_of_line n h = digits_of_line (decimal n) (decimal_is_IsNumeral n (omega (arith, h))).0.1

plain_of_line : (byte : ℕ) → IsPlain byte → IsLineByte byte
plain_of_line byte (inl zero) = inl zero
plain_of_line byte (inr more) = inr (omega arith)

pub line_bytes : (place count : ℕ) (bytes : List ℕ) → place < 10 ^ 7 → count < 10 ^ 7 → All IsLineByte (line_in_piece_form place count (data_text bytes))
line_bytes place count bytes p c =
    let written = All-weaker IsPlain IsLineByte plain_of_line (data_text bytes) (data_plain bytes) in
    let last = All-cons IsLineByte 32 (data_text bytes) (inr (omega arith)) written in
    let counted = All-append IsLineByte (decimal count) (32 ∷ data_text bytes) (number_of_line count c) last in
    let second = All-cons IsLineByte 32 (decimal count ++ 32 ∷ data_text bytes) (inr (omega arith)) counted in
    let placed = All-append IsLineByte (decimal place) (32 ∷ (decimal count ++ 32 ∷ data_text bytes)) (number_of_line place p) second in
    All-cons IsLineByte 112 (32 ∷ (decimal place ++ 32 ∷ (decimal count ++ 32 ∷ data_text bytes))) (inr (omega arith))
    (All-cons IsLineByte 32 (decimal place ++ 32 ∷ (decimal count ++ 32 ∷ data_text bytes)) (inr (omega arith)) placed)

-- ---- one line

byte_at : (line : List ℕ) → All IsLineByte line → (k : ℕ) → IsLineByte (slice_index line k)
byte_at line all k = elim (cases_lt k (length line)) [
  | inl within ↦ all k 0 within
  | inr past ↦ inl (get_or_past line k 0 past)
]

no_return : (byte : ℕ) → IsLineByte byte → byte ≡ 13 → ⊥
no_return byte (inl zero) is = omega arith
no_return byte (inr more) is = omega arith

no_feed : (byte : ℕ) → IsLineByte byte → (byte == 10) ≡ false
no_feed byte (inl zero) = ne_eqb byte 10 (λ e. omega arith)
no_feed byte (inr more) = ne_eqb byte 10 (λ e. omega arith)

strip_same : (line : List ℕ) → All IsLineByte line → strip_carriage_return line ≡ line
strip_same line all =
    let last = slice_index line (length line - 1) in
    cond-false (last == 13) (take (length line - 1) line) line (ne_eqb last 13 (no_return last (byte_at line all (length line - 1))))

part_before : (part : List ℕ) (parts : List (List ℕ)) → 0 < length parts → lines_of_parts (part ∷ parts) ≡ strip_carriage_return part ∷ lines_of_parts parts
part_before part [] some = absurd (omega arith)
part_before part (next ∷ more) some = refl

first_line : (line rest : List ℕ) → All IsLineByte line → lines ((line ++ 10 ∷ []) ++ rest) ≡ line ∷ lines rest
first_line line rest all =
    let p : ℕ → Bool = λ b. b == 10 in
    let none = All-weaker IsLineByte (λ b. p b ≡ false) no_feed line all in
    ap lines (append_assoc line (10 ∷ []) rest)
    ∙ ap lines_of_parts (slice_split_at p line 10 rest none refl)
    ∙ part_before line (slice_split p rest) (omega (arith, length-slice_split p rest))
    ∙ ap (λ (l : List ℕ). l ∷ lines rest) (strip_same line all)

-- A line that begins with p is read.
pub begun : (rest : List ℕ) → is_skipped (112 ∷ rest) ≡ false
begun rest = ap (λ none. none || false) (ne_eqb (length (112 ∷ rest)) 0 (λ e. omega arith))

-- ---- lines of a text

-- Lines that end nowhere before their feed, and that aren't skipped.
pub record IsLine (line : List ℕ) : Type 0 where
  pub bytes : All IsLineByte line
  pub read : is_skipped line ≡ false

lines_again : (sent : List (List ℕ)) → AllByRecursion IsLine sent → lines (text_of_lines sent) ≡ sent
lines_again [] all = refl
lines_again (line ∷ sent) all = first_line line (text_of_lines sent) all.0.bytes ∙ ap (λ (l : List (List ℕ)). line ∷ l) (lines_again sent all.1)

kept_again : (n : ℕ) (sent : List (List ℕ)) → AllByRecursion IsLine sent → kept (numbered n sent) ≡ numbered n sent
kept_again n [] all = refl
kept_again n (line ∷ sent) all = by (is_skipped line) all.0.read (kept_again (n + 1) sent all.1)
  where
    by : (skipped : Bool) → skipped ≡ false → kept (numbered (n + 1) sent) ≡ numbered (n + 1) sent
        → (if not skipped then (n, line) ∷ kept (numbered (n + 1) sent) else kept (numbered (n + 1) sent)) ≡ (n, line) ∷ numbered (n + 1) sent
    by true bad more = absurd (cc bad)
    by false is more = ap (λ ls. (n, line) ∷ ls) more

pub lines_of_sent : (sent : List (List ℕ)) → AllByRecursion IsLine sent → lines_of (text_of_lines sent) ≡ numbered 1 sent
unfolding lines_of
lines_of_sent sent all = ap (λ ls. kept (numbered 1 ls)) (lines_again sent all) ∙ kept_again 1 sent all
