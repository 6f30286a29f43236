-- The texts of faults.
use Rattle.std.specs.Prelude.{ℕ, List, ◌++◌, codes}
use Rattle.std.specs.Fmt.{decimal}
use Rattle.context_model.specs.ByteCodes.{code_name}
use Rattle.wire_bytes.specs.Reading.{byte_code_of}
use Rattle.table_text.specs.Faults.{table_code_name}
use Rattle.field_calls.specs.declared.refusals.FieldRefusal.{FieldRefusal}
use Rattle.field_calls.specs.declared.refusals.FieldRefusal.TheVariants as refusals

-- The text of a refusal: the line of the table, or how many bytes come before the fault, and the
-- code.
abbrev pub field_refusal_text : FieldRefusal → List ℕ
field_refusal_text (refusals.Table line code) =
    codes "line " ++ (decimal line ++ (codes " " ++ table_code_name code))
field_refusal_text refusals.NoField = codes "NoField"
field_refusal_text refusals.NoWrite = codes "NoWrite"
field_refusal_text (refusals.Fault offset code) =
    codes "offset " ++ (decimal offset ++ (codes " " ++ code_name (byte_code_of code)))
field_refusal_text (refusals.IllTyped offset) =
    codes "offset " ++ (decimal offset ++ codes " IllTyped")
field_refusal_text refusals.Memory = codes "out of memory"
field_refusal_text (refusals.Room size) = codes "size " ++ decimal size
