-- The lines of an input, with their numbers.
use Rattle.std.specs.Prelude.{ℕ, ◌+◌, Bool, ◌==◌, ◌||◌, not, List, [], ◌∷◌, length, filter, slice_index}
use Rattle.std.specs.Str.Lines.{lines}
use Rattle.text_lines.specs.declared.lines.Line.{Line as LineItem}

-- A line with its number.
abbrev pub Line : Type 0
Line = ℕ × List ℕ

-- What the code's line is.
abbrev pub line_value : LineItem → Line
line_value line = (line.number, line.text.now)

-- Lines with their numbers, from one on.
abbrev pub numbered : ℕ → List (List ℕ) → List Line
numbered number [] = []
numbered number (text ∷ texts) = (number, text) ∷ numbered (number + 1) texts

-- An empty line and one that begins with # are skipped.
abbrev pub is_skipped : List ℕ → Bool
is_skipped text = (length text == 0) || (slice_index text 0 == 35)

-- The lines that aren't skipped.
abbrev pub kept : List Line → List Line
kept every = filter (λ line. not (is_skipped line.1)) every

-- The lines that a reader sees. The input is cut at line feeds; a carriage return just before one
-- is dropped, and an empty last piece is no line. All lines are counted, from 1, and some are
-- skipped.
unfoldable pub lines_of : List ℕ → List Line
lines_of input = kept (numbered 1 (lines input))
