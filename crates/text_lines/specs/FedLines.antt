-- The lines of some bytes, each with its line feed.
use Rattle.std.specs.Prelude.{ℕ, ◌==◌, if◌then◌else◌, List, [], ◌∷◌}
use Rattle.text_lines.specs.Words.{IsFree}

-- A byte before the first of some lines.
abbrev pub onto_first : ℕ → List (List ℕ) → List (List ℕ)
onto_first byte [] = (byte ∷ []) ∷ []
onto_first byte (line ∷ lines) = (byte ∷ line) ∷ lines

-- The lines of a text, each with the line feed at its end; the last may be without one.
abbrev pub fed_lines : List ℕ → List (List ℕ)
fed_lines [] = []
fed_lines (byte ∷ bytes) =
    if byte == 10 then (byte ∷ []) ∷ fed_lines bytes else onto_first byte (fed_lines bytes)

-- No byte is a line feed.
abbrev pub HasNoFeed : List ℕ → Type 0
HasNoFeed text = IsFree 10 text
