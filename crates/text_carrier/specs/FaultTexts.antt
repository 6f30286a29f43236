-- The texts of faults.
use Rattle.std.specs.Prelude.{ℕ, List, ◌++◌, codes}
use Rattle.std.specs.Fmt.{decimal}
use Rattle.text_carrier.specs.Views.{carry_code_name}
use Rattle.text_carrier.specs.declared.faults.CarryFault.{CarryFault}
use Rattle.text_carrier.specs.declared.faults.CarryFault.TheVariants as faults

-- The text of a fault: the line and the rule that it breaks, or what is wrong with all lines.
abbrev pub carry_fault_text : CarryFault → List ℕ
carry_fault_text (faults.At line code) =
    codes "line " ++ (decimal line ++ (codes " " ++ carry_code_name code))
carry_fault_text faults.NoLine = codes "NoLine"
carry_fault_text (faults.Missing piece) = codes "Missing " ++ decimal piece
carry_fault_text faults.TooManyBytes = codes "TooManyBytes"
carry_fault_text faults.Memory = codes "out of memory"
