-- The names of the rules, as they are printed, and the refusal of a text.
use Rattle.std.specs.Prelude.{ℕ, List, codes}
use Rattle.table_text.specs.declared.faults.TableCode.{TableCode}
use Rattle.table_text.specs.declared.faults.TableCode.TheVariants.{Head, Form, Depth, Order, DuplicateField, TooDeep, TooManySlots}
use Rattle.outside.specs.declared.answers.OrMemory.{OrMemory}
use Rattle.outside.specs.declared.answers.OrMemory.TheVariants as refusals
use Rattle.table_text.specs.declared.faults.TableFault.{TableFault}
use Rattle.table_text.specs.declared.faults.TableFault.TheVariants.{At, Memory}

-- The name of a code of a table's text, as it is printed.
abbrev pub table_code_name : TableCode → List ℕ
table_code_name Head = codes "Head"
table_code_name Form = codes "Form"
table_code_name Depth = codes "Depth"
table_code_name Order = codes "Order"
table_code_name DuplicateField = codes "DuplicateField"
table_code_name TooDeep = codes "TooDeep"
table_code_name TooManySlots = codes "TooManySlots"

-- The refusal of a text, by that of its line with this number.
abbrev pub table_fault_at : ℕ → OrMemory TableCode → TableFault
table_fault_at line (refusals.Fault code) = At line code
table_fault_at line refusals.Memory = Memory
