-- The texts of faults.
use Rattle.std.specs.Prelude.{ℕ, List, codes}
use Rattle.lex_varint.specs.declared.VarintFault.{VarintFault}
use Rattle.lex_varint.specs.declared.VarintFault.TheVariants.{Cut, LongForm, OutOfRange}

-- The text of a fault of a varint: its name.
abbrev pub varint_fault_text : VarintFault → List ℕ
varint_fault_text Cut = codes "Cut"
varint_fault_text LongForm = codes "LongForm"
varint_fault_text OutOfRange = codes "OutOfRange"
