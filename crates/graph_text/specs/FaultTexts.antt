-- The texts of faults.
use Rattle.std.specs.Prelude.{ℕ, List, ◌++◌, codes}
use Rattle.std.specs.Fmt.{decimal}
use Rattle.context_model.specs.ByteCodes.{code_name}
use Rattle.wire_bytes.specs.Reading.{byte_code_of}
use Rattle.graph_text.specs.Faults.{graph_code_name}
use Rattle.graph_text.specs.declared.faults.LineFault.{LineFault}
use Rattle.graph_text.specs.declared.faults.LineFault.TheVariants as lines
use Rattle.graph_text.specs.declared.faults.GraphFault.{GraphFault}
use Rattle.graph_text.specs.declared.faults.GraphFault.TheVariants as faults

-- The text of what is wrong with a line: the rule that it breaks, or how many bytes of what it
-- receives come before the fault.
abbrev pub line_fault_text : LineFault → List ℕ
line_fault_text (lines.Code code) = graph_code_name code
line_fault_text (lines.Bytes offset code) =
    codes "offset " ++ (decimal offset ++ (codes " " ++ code_name (byte_code_of code)))
line_fault_text (lines.IllTyped offset) = codes "offset " ++ (decimal offset ++ codes " IllTyped")

-- The text of a fault: the line, and what is wrong with it.
abbrev pub graph_fault_text : GraphFault → List ℕ
graph_fault_text (faults.At line code) =
    codes "line " ++ (decimal line ++ (codes " " ++ graph_code_name code))
graph_fault_text (faults.Bytes line offset code) =
    codes "line "
    ++ (decimal line ++ (codes " offset "
    ++ (decimal offset ++ (codes " " ++ code_name (byte_code_of code)))))
graph_fault_text (faults.IllTyped line offset) =
    codes "line " ++ (decimal line ++ (codes " offset " ++ (decimal offset ++ codes " IllTyped")))
graph_fault_text faults.Memory = codes "out of memory"
