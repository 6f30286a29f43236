-- The texts of faults.
use Rattle.std.specs.Prelude.{ℕ, List, codes}
use Rattle.text_lines.specs.HexLines.{hex_name}
use Rattle.text_lines.specs.declared.hex_lines.HexFault.{HexFault}
use Rattle.text_lines.specs.declared.hex_lines.HexFault.TheVariants as faults

-- The text of what keeps a text from being bytes.
abbrev pub hex_fault_text : HexFault → List ℕ
hex_fault_text (faults.Bad code) = hex_name code
hex_fault_text faults.Memory = codes "out of memory"
