-- The texts of faults.
use Rattle.std.specs.Prelude.{ℕ, List, codes}
use Rattle.atom_kinds.specs.declared.KindFault.{KindFault}
use Rattle.atom_kinds.specs.declared.KindFault.TheVariants.{BadPrefix, BadIndex}

-- The text of a fault of an atom: its name.
abbrev pub kind_fault_text : KindFault → List ℕ
kind_fault_text BadPrefix = codes "BadPrefix"
kind_fault_text BadIndex = codes "BadIndex"
