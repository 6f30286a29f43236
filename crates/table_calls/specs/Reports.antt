-- What is reported of a context.
use Rattle.std.specs.Prelude.{◌≡◌, ℕ, List, Result, Ok, Err}
use Rattle.context_model.specs.declared.Form.{Form}
use Rattle.context_model.specs.Atoms.{Atom}
use Rattle.context_model.specs.ContextFault.{IsFirstContextFault}
use Rattle.context_model.specs.Framing.{form_of}
use Rattle.bag_model.specs.Shapes.{Nodes}
use Rattle.wire_bytes.specs.Reading.{byte_code_of}
use Rattle.table_text.specs.Reading.{IsTableFault}
use Rattle.report_text.specs.Blocks.{IsBlock}
use Rattle.context_json.specs.Objects.{IsContextJson}
use Rattle.byte_calls.specs.Room.{HoldsBytes, IsTooShortFor}
use Rattle.field_calls.specs.Fields.{IsPrintedTable}
use Rattle.field_calls.specs.Reading.{IsTypedContextOf, IsIllTypedAt}
use Rattle.table_calls.specs.declared.refusals.TableRefusal.{TableRefusal}
use Rattle.table_calls.specs.declared.refusals.TableRefusal.TheVariants.{Table, Fault, IllTyped, Memory, Room}
use Rattle.table_calls.specs.declared.reports.ReportForm.{ReportForm}
use Rattle.table_calls.specs.declared.reports.ReportForm.TheVariants.{Text, Json}

-- The text is the block of the list, or its object as JSON, with its bytes in this form.
abbrev pub Reports : ReportForm → Nodes → Form → List Atom → List ℕ → Type 0
Reports Text nodes form list text = IsBlock nodes form list text
Reports Json nodes form list text = IsContextJson nodes form list text

-- The bytes are those of a typed context, and the text is its report, with its bytes as they are.
abbrev pub IsReportOf : ReportForm → Nodes → List ℕ → List ℕ → Type 0
IsReportOf report nodes bytes text =
    (list : List Atom) × IsTypedContextOf nodes list bytes
    × Reports report nodes (form_of bytes) list text

-- Why nothing is reported of the bytes under this table: they have this first fault, or are those
-- of a context that isn't typed from there on. Where memory ran out, nothing is claimed.
abbrev pub IsUnreported : Nodes → List ℕ → TableRefusal → Type 0
IsUnreported nodes bytes (Fault offset code) = IsFirstContextFault bytes offset (byte_code_of code)
IsUnreported nodes bytes (IllTyped offset) = IsIllTypedAt nodes bytes offset
IsUnreported nodes bytes Memory = Unit {0}
IsUnreported nodes bytes other = ⊥

-- The report is at the beginning of the buffer, and the answer is its size; or the buffer is too
-- short for it. Or the table's text has this first fault, or it is that of a table and nothing is
-- reported under it, and the buffer is as before.
abbrev pub ReportsInto : ReportForm → List ℕ → List ℕ → List ℕ → List ℕ → Result ℕ TableRefusal
    → Type 0
ReportsInto report table bytes old new (Ok size) =
    (nodes : Nodes) × IsPrintedTable nodes table × (text : List ℕ)
    × IsReportOf report nodes bytes text × HoldsBytes text size old new
ReportsInto report table bytes old new (Err (Room size)) =
    (nodes : Nodes) × IsPrintedTable nodes table × (text : List ℕ)
    × IsReportOf report nodes bytes text
    × IsTooShortFor text size old new
ReportsInto report table bytes old new (Err (Table which line code)) =
    (which ≡ 0) × IsTableFault table line code × (new ≡ old)
ReportsInto report table bytes old new (Err Memory) = new ≡ old
ReportsInto report table bytes old new (Err refusal) =
    (nodes : Nodes) × IsPrintedTable nodes table × IsUnreported nodes bytes refusal × (new ≡ old)

-- The report is at the beginning of the buffer, and the answer is its size; or the buffer is too
-- short for it. Or nothing is reported under this table, and the buffer is as before.
abbrev pub ReportsUnder : ReportForm → Nodes → List ℕ → List ℕ → List ℕ → Result ℕ TableRefusal
    → Type 0
ReportsUnder report nodes bytes old new (Ok size) =
    (text : List ℕ) × IsReportOf report nodes bytes text × HoldsBytes text size old new
ReportsUnder report nodes bytes old new (Err (Room size)) =
    (text : List ℕ) × IsReportOf report nodes bytes text × IsTooShortFor text size old new
ReportsUnder report nodes bytes old new (Err (Table which line code)) = ⊥
ReportsUnder report nodes bytes old new (Err Memory) = new ≡ old
ReportsUnder report nodes bytes old new (Err refusal) =
    IsUnreported nodes bytes refusal × (new ≡ old)
