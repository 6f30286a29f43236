-- The lines of some bytes with their line feeds: the first of them, and those after it.
use Rattle.std.proofs.Common.{◌≡◌, ℕ, ◌+◌, ◌<◌, ◌==◌, Bool, true, false, if◌then◌else◌, List, [], ◌∷◌, ◌++◌, length, take, drop, get_or, refl, sym, ◌∙◌, ap, length-append, arith}
use Rattle.std.proofs.lemmas.Grind.{common_steps}
use Rattle.std.proofs.lemmas.List.{take_more}
use Rattle.text_lines.specs.FedLines.{fed_lines, onto_first, HasNoFeed}
use Rattle.text_lines.proofs.Separated.{head_free, tail_free}

fed_byte : (byte : ℕ) (bytes : List ℕ) → (byte == 10) ≡ false → fed_lines (byte ∷ bytes) ≡ onto_first byte (fed_lines bytes)
fed_byte byte bytes other = ap (λ b. if b then (byte ∷ []) ∷ fed_lines bytes else onto_first byte (fed_lines bytes)) other

-- A line is cut at its line feed.
pub fed_line : (line rest : List ℕ) → HasNoFeed line → fed_lines (line ++ 10 ∷ rest) ≡ (line ++ 10 ∷ []) ∷ fed_lines rest
fed_line [] rest free = refl
fed_line (byte ∷ line) rest free =
    fed_byte byte (line ++ 10 ∷ rest) (head_free 10 byte line free) ∙ ap (onto_first byte) (fed_line line rest (tail_free 10 byte line free))

-- Bytes without a line feed are one line, if there are any.
pub fed_rest : (byte : ℕ) (bytes : List ℕ) → HasNoFeed (byte ∷ bytes) → fed_lines (byte ∷ bytes) ≡ (byte ∷ bytes) ∷ []
fed_rest byte [] free = fed_byte byte [] (head_free 10 byte [] free)
fed_rest byte (next ∷ bytes) free =
    fed_byte byte (next ∷ bytes) (head_free 10 byte (next ∷ bytes) free) ∙ ap (onto_first byte) (fed_rest next bytes (tail_free 10 byte (next ∷ bytes) free))

pub only_line : (bytes : List ℕ) → 0 < length bytes → HasNoFeed bytes → fed_lines bytes ≡ bytes ∷ []
only_line [] some free = absurd (omega arith)
only_line (byte ∷ bytes) some free = fed_rest byte bytes free

-- All lines together.
abbrev pub whole : List (List ℕ) → List ℕ
whole [] = []
whole (line ∷ lines) = line ++ whole lines

onto_whole : (byte : ℕ) (lines : List (List ℕ)) → whole (onto_first byte lines) ≡ byte ∷ whole lines
onto_whole byte [] = refl
onto_whole byte (line ∷ lines) = refl

pub fed_whole : (bytes : List ℕ) → whole (fed_lines bytes) ≡ bytes
fed_whole [] = refl
fed_whole (byte ∷ bytes) = by (byte == 10) (fed_whole bytes)
  where
    by : (b : Bool) → whole (fed_lines bytes) ≡ bytes → whole (if b then (byte ∷ []) ∷ fed_lines bytes else onto_first byte (fed_lines bytes)) ≡ byte ∷ bytes
    by true more = ap (λ (l : List ℕ). byte ∷ l) more
    by false more = onto_whole byte (fed_lines bytes) ∙ ap (λ (l : List ℕ). byte ∷ l) more

-- The first line ends at the first line feed.
pub first_line : (bytes : List ℕ) (at : ℕ) → at < length bytes → HasNoFeed (take at bytes) → get_or bytes at 0 ≡ 10
    → fed_lines bytes ≡ take (at + 1) bytes ∷ fed_lines (drop (at + 1) bytes)
first_line bytes at within free is =
    let around : bytes ≡ take at bytes ++ 10 ∷ drop (at + 1) bytes = grind (arith, common_steps) in
    ap fed_lines around ∙ fed_line (take at bytes) (drop (at + 1) bytes) free
    ∙ ap (λ (l : List ℕ). l ∷ fed_lines (drop (at + 1) bytes)) (ap (λ b. take at bytes ++ b ∷ []) (sym is) ∙ sym (take_more bytes at 0 within))

-- The last of two equal texts.
pub unsnoc : (a b : List ℕ) (x y : ℕ) → a ++ x ∷ [] ≡ b ++ y ∷ [] → a ≡ b
unsnoc [] [] x y e = refl
unsnoc [] (d ∷ b) x y e = absurd (omega (arith, ap length e, length-append b (y ∷ [])))
unsnoc (c ∷ a) [] x y e = absurd (omega (arith, ap length e, length-append a (x ∷ [])))
unsnoc (c ∷ a) (d ∷ b) x y e =
    let first : c ≡ d = cc e in
    let more : a ++ x ∷ [] ≡ b ++ y ∷ [] = cc e in
    let rest = unsnoc a b x y more in cc (first, rest)
