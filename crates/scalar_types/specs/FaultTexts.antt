-- The texts of faults.
use Rattle.std.specs.Prelude.{ℕ, List, codes}
use Rattle.scalar_types.specs.declared.codec.TakeFault.{TakeFault}
use Rattle.scalar_types.specs.declared.codec.TakeFault.TheVariants.{NotSpelled, Memory}

-- The text of a fault of a spelling: its name, or that there was no memory.
abbrev pub take_fault_text : TakeFault → List ℕ
take_fault_text NotSpelled = codes "NotSpelled"
take_fault_text Memory = codes "out of memory"
