-- The lines of some bytes: the first of them, and those after it.
use Rattle.std.proofs.Common.{◌≡◌, ◌≢◌, ℕ, ◌+◌, ◌-◌, ◌<◌, ◌≤◌, Bool, false, cond, List, [], ◌∷◌, ◌++◌, length, map, take, drop, get_or, refl, sym, ◌∙◌, ap, subst, arith}
use Rattle.std.proofs.Math.Dec.{eqb}
use Rattle.std.proofs.lemmas.Bool.{ne_eqb}
use Rattle.std.proofs.lemmas.List.{take_rest}
use Rattle.std.proofs.lemmas.List.Splits.{slice_split_none, slice_split_at, length-slice_split}
use Rattle.std.proofs.lemmas.Grind.{common_steps}
use Rattle.std.specs.List.{All, slice_split}
use Rattle.std.specs.Str.Lines.{lines, lines_of_parts, strip_carriage_return}
use Rattle.std.specs.Iterator.{Yields, YieldsFirstBy}
use Rattle.text_lines.specs.declared.lines.Line.{Line as LineItem}
use Rattle.text_lines.specs.Lines.{Line, line_value}

-- A part before others loses its carriage return.
part_before : (part : List ℕ) (parts : List (List ℕ)) → 0 < length parts → lines_of_parts (part ∷ parts) ≡ strip_carriage_return part ∷ lines_of_parts parts
part_before part [] some = absurd (omega arith)
part_before part (next ∷ more) some = refl

-- The bytes around the one at a place.
around : (bytes : List ℕ) (at : ℕ) → at < length bytes → get_or bytes at 0 ≡ 10 → bytes ≡ take at bytes ++ 10 ∷ drop (at + 1) bytes
around bytes at within is = grind (arith, common_steps)

no_feed : (bytes : List ℕ) (at : ℕ) → at ≤ length bytes → ((k : ℕ) → k < at → get_or bytes k 0 ≢ 10) → All (λ b. eqb b 10 ≡ false) (take at bytes)
no_feed bytes at within before k d less =
    let l : k < at = grind (arith, common_steps) in
    let same : get_or (take at bytes) k d ≡ get_or bytes k 0 = grind (arith, common_steps) in
    ne_eqb _ 10 (λ e. before k l (sym same ∙ e))

-- The first line ends at the first line feed.
pub first_line : (bytes : List ℕ) (at : ℕ) → at < length bytes → ((k : ℕ) → k < at → get_or bytes k 0 ≢ 10) → get_or bytes at 0 ≡ 10
    → lines bytes ≡ strip_carriage_return (take at bytes) ∷ lines (take (length bytes - (at + 1)) (drop (at + 1) bytes))
first_line bytes at within before is =
    let p : ℕ → Bool = λ b. eqb b 10 in
    let rest = drop (at + 1) bytes in
    let few : at ≤ length bytes = omega arith in
    ap lines (around bytes at within is)
    ∙ ap lines_of_parts (slice_split_at p (take at bytes) 10 rest (no_feed bytes at few before) refl)
    ∙ part_before (take at bytes) (slice_split p rest) (omega (arith, length-slice_split p rest))
    ∙ ap (λ behind. strip_carriage_return (take at bytes) ∷ lines behind) (sym (take_rest bytes (at + 1)))

-- Bytes without a line feed are one line, if there are any.
pub only_line : (bytes : List ℕ) → 0 < length bytes → ((k : ℕ) → k < length bytes → get_or bytes k 0 ≢ 10) → lines bytes ≡ bytes ∷ []
only_line bytes some none =
    let whole : take (length bytes) bytes ≡ bytes = grind (arith, common_steps) in
    let p : ℕ → Bool = λ b. eqb b 10 in
    ap lines_of_parts (slice_split_none p bytes (subst (All (λ b. eqb b 10 ≡ false)) whole (no_feed bytes (length bytes) (omega arith) none)))
    ∙ ap (λ t. cond t [] (bytes ∷ [])) (ne_eqb (length bytes) 0 (λ z. omega arith))

-- The lines that a loop has taken are before those that are left.
pub taken_before : (lines : List Line) (taken : List LineItem) (left : List Line) → Yields (YieldsFirstBy line_value (λ (rest : List Line). rest)) lines taken left
    → lines ≡ map line_value taken ++ left
taken_before lines [] left same = same
taken_before lines (line ∷ taken) left (next, first, more) = first ∙ ap (λ rest. line_value line ∷ rest) (taken_before next taken left more)
