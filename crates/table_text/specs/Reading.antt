-- The first fault of a text that is no table's.
use Rattle.std.specs.Prelude.{◌≡◌, ◌≢◌, ◌⊎◌, ℕ, List, ◌∷◌, ◌++◌, codes}
use Rattle.text_lines.specs.FedLines.{fed_lines}
use Rattle.text_lines.specs.Lines.{Line, numbered}
use Rattle.text_lines.specs.Readings.{IsFirstBad}
use Rattle.table_text.specs.declared.faults.TableCode.{TableCode}
use Rattle.table_text.specs.declared.faults.TableCode.TheVariants.{Head, Form}
use Rattle.table_text.specs.declared.faults.TableFault.{TableFault}
use Rattle.table_text.specs.declared.faults.TableFault.TheVariants.{At, Memory}
use Rattle.table_text.specs.Rules.{field_lines}

-- The lines after the first, with their numbers.
abbrev pub lines_behind : List ℕ → List Line
lines_behind rest = numbered 2 (fed_lines rest)

-- The first line of each table's text, without its line feed.
abbrev pub head_line : List ℕ
head_line = codes "baggage table 1"

-- The first line is bad: it is another one, or all of the text and without its line feed.
abbrev pub IsHeadFault : List ℕ → TableCode → Type 0
IsHeadFault text code =
    ((text ≢ head_line) × ((rest : List ℕ) → text ≢ head_line ++ 10 ∷ rest) × (code ≡ Head))
    ⊎ ((text ≡ head_line) × (code ≡ Form))

-- The first bad line of the text has this number and this fault.
abbrev pub IsTableFault : List ℕ → ℕ → TableCode → Type 0
IsTableFault text line code =
    ((line ≡ 1) × IsHeadFault text code)
    ⊎ ((rest : List ℕ) × (text ≡ head_line ++ 10 ∷ rest)
    × IsFirstBad field_lines (lines_behind rest) line code)

-- The answer names the first fault. Where memory ran out, nothing is claimed.
abbrev pub IsTableRefusalOf : List ℕ → TableFault → Type 0
IsTableRefusalOf text (At line code) = IsTableFault text line code
IsTableRefusalOf text Memory = Unit {0}

-- The answer names the first bad line after the first. Where memory ran out, nothing is claimed.
abbrev pub IsRefusalBehind : List ℕ → TableFault → Type 0
IsRefusalBehind rest (At line code) = IsFirstBad field_lines (lines_behind rest) line code
IsRefusalBehind rest Memory = Unit {0}
