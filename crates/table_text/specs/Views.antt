-- What the code has read of a line as what it says.
use Rattle.std.specs.Prelude.{◌^◌, ◌≤◌, ℕ, List}
use Rattle.field_table.specs.Plain.{shape_of}
use Rattle.table_text.specs.declared.rows.Row.{Row as CodeRow}
use Rattle.table_text.specs.declared.faults.TableCode.{TableCode}
use Rattle.table_text.specs.declared.faults.TableCode.TheVariants.{Form, Depth}
use Rattle.outside.specs.declared.answers.OrMemory.{OrMemory}
use Rattle.outside.specs.declared.answers.OrMemory.TheVariants.{Fault, Memory}
use Rattle.table_text.specs.Rows.{Row, SaysRow}
use Rattle.table_text.specs.Rules.{RowBreaks, table_rules, IsBadRowLine}
use Rattle.text_lines.specs.Readings.{IsFirstOf}

-- What the line says.
abbrev pub plain_row_of : CodeRow → Row
plain_row_of row =
    record { depth = row.depth; name = row.name.now; number = row.number; shape = shape_of row.shape }

-- The line has no form, or a depth of more than 64 bits, or memory runs out for it.
abbrev pub HasNoRow : List ℕ → OrMemory TableCode → Type 0
HasNoRow text (Fault Form) = (row : Row) → SaysRow text row → ⊥
HasNoRow text (Fault Depth) = (row : Row) × SaysRow text row × (2 ^ 64 ≤ row.depth)
HasNoRow text (Fault other) = ⊥
HasNoRow text Memory = Unit {0}

-- The line is refused after these lines: it is bad, or memory runs out for it.
abbrev pub IsRefusedRowLine : List Row → List ℕ → OrMemory TableCode → Type 0
IsRefusedRowLine before text (Fault code) = IsBadRowLine before text code
IsRefusedRowLine before text Memory = Unit {0}

-- A line that has the form is refused after these lines: it breaks this rule first, or memory runs
-- out for it.
abbrev pub IsAddRefused : List Row → Row → OrMemory TableCode → Type 0
IsAddRefused before row (Fault code) = IsFirstOf (RowBreaks before row) table_rules code
IsAddRefused before row Memory = Unit {0}
