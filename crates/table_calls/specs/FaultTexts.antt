-- The texts of faults.
use Rattle.std.specs.Prelude.{ℕ, List, ◌++◌, codes}
use Rattle.std.specs.Fmt.{decimal}
use Rattle.context_model.specs.ByteCodes.{code_name}
use Rattle.wire_bytes.specs.Reading.{byte_code_of}
use Rattle.table_text.specs.Faults.{table_code_name}
use Rattle.table_calls.specs.declared.refusals.TableRefusal.{TableRefusal}
use Rattle.table_calls.specs.declared.refusals.TableRefusal.TheVariants as refusals

-- The text of a refusal: which table, its line and the rule that it breaks, or how many bytes come
-- before the fault, and its code.
abbrev pub table_refusal_text : TableRefusal → List ℕ
table_refusal_text (refusals.Table which line code) =
    codes "table " ++ (decimal which
    ++ (codes " line " ++ (decimal line ++ (codes " " ++ table_code_name code))))
table_refusal_text (refusals.Fault offset code) =
    codes "offset " ++ (decimal offset ++ (codes " " ++ code_name (byte_code_of code)))
table_refusal_text (refusals.IllTyped offset) =
    codes "offset " ++ (decimal offset ++ codes " IllTyped")
table_refusal_text refusals.Memory = codes "out of memory"
table_refusal_text (refusals.Room size) = codes "size " ++ decimal size
