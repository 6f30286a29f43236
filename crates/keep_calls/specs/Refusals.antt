-- Refusals of tables and inputs in the words of this crate, and their texts.
use Rattle.std.specs.Prelude.{◌≡◌, ℕ, List, ◌++◌, codes}
use Rattle.std.specs.Fmt.{decimal}
use Rattle.context_model.specs.ByteCodes.{code_name}
use Rattle.table_text.specs.Faults.{table_code_name}
use Rattle.table_text.specs.declared.faults.TableFault.{TableFault}
use Rattle.table_text.specs.declared.faults.TableFault.TheVariants as tables
use Rattle.wire_bytes.specs.Reading.{byte_code_of}
use Rattle.byte_calls.specs.declared.refusals.Refusal.{Refusal}
use Rattle.byte_calls.specs.declared.refusals.Refusal.TheVariants as inputs
use Rattle.keep_calls.specs.declared.refusals.KeepRefusal.{KeepRefusal}
use Rattle.keep_calls.specs.declared.refusals.KeepRefusal.TheVariants.{Table, Fault, Memory, Room}

-- The refusal tells the fault of a table's text.
abbrev pub KeepTellsTable : TableFault → KeepRefusal → Type 0
KeepTellsTable (tables.At line code) refusal = refusal ≡ Table line code
KeepTellsTable tables.Memory refusal = refusal ≡ Memory

-- The refusal tells what is wrong with the inputs.
abbrev pub TellsInputs : Refusal → KeepRefusal → Type 0
TellsInputs (inputs.Fault context offset code) refusal = refusal ≡ Fault context offset code
TellsInputs inputs.Memory refusal = refusal ≡ Memory
TellsInputs (inputs.Room size) refusal = refusal ≡ Room size

-- The text of a refusal: the line of the table, or which context and how many bytes of it come
-- before the fault, and the code.
abbrev pub keep_refusal_text : KeepRefusal → List ℕ
keep_refusal_text (Table line code) =
    codes "line " ++ (decimal line ++ (codes " " ++ table_code_name code))
keep_refusal_text (Fault context offset code) =
    codes "context "
    ++ (decimal context ++
    (codes " offset " ++ (decimal offset ++ (codes " " ++ code_name (byte_code_of code)))))
keep_refusal_text Memory = codes "out of memory"
keep_refusal_text (Room size) = codes "size " ++ decimal size
