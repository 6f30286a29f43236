-- The texts of faults.
use Rattle.std.specs.Prelude.{ℕ, List, ◌++◌, codes}
use Rattle.std.specs.Fmt.{decimal}
use Rattle.context_model.specs.ByteCodes.{code_name}
use Rattle.wire_bytes.specs.Reading.{byte_code_of}
use Rattle.table_text.specs.Faults.{table_code_name}
use Rattle.step_calls.specs.declared.refusals.WriteCode.{WriteCode}
use Rattle.step_calls.specs.declared.refusals.WriteCode.TheVariants.{NoField, NoWrite}
use Rattle.step_calls.specs.declared.refusals.StepRefusal.{StepRefusal}
use Rattle.step_calls.specs.declared.refusals.StepRefusal.TheVariants as refusals

-- The name of a code of a line of writes, as it is printed.
abbrev pub write_code_name : WriteCode → List ℕ
write_code_name NoField = codes "NoField"
write_code_name NoWrite = codes "NoWrite"

-- The text of a refusal: the line of the table or of the writes, or which context and how many
-- bytes of it come before the fault, and the code.
abbrev pub step_refusal_text : StepRefusal → List ℕ
step_refusal_text (refusals.Table line code) =
    codes "table line " ++ (decimal line ++ (codes " " ++ table_code_name code))
step_refusal_text (refusals.Write line code) =
    codes "write line " ++ (decimal line ++ (codes " " ++ write_code_name code))
step_refusal_text (refusals.Fault context offset code) =
    codes "context "
    ++ (decimal context ++
    (codes " offset " ++ (decimal offset ++ (codes " " ++ code_name (byte_code_of code)))))
step_refusal_text (refusals.IllTyped context offset) =
    codes "context " ++ (decimal context
    ++ (codes " offset " ++ (decimal offset ++ codes " IllTyped")))
step_refusal_text refusals.Memory = codes "out of memory"
step_refusal_text (refusals.Room size) = codes "size " ++ decimal size
