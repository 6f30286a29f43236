-- The texts of faults.
use Rattle.std.specs.Prelude.{ℕ, List, ◌++◌, codes}
use Rattle.std.specs.Fmt.{decimal}
use Rattle.table_text.specs.Faults.{table_code_name}
use Rattle.table_text.specs.declared.faults.TableFault.{TableFault}
use Rattle.table_text.specs.declared.faults.TableFault.TheVariants as faults

-- The text of a fault: the line, and the rule that it breaks.
abbrev pub table_fault_text : TableFault → List ℕ
table_fault_text (faults.At line code) =
    codes "line " ++ (decimal line ++ (codes " " ++ table_code_name code))
table_fault_text faults.Memory = codes "out of memory"
