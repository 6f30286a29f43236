-- What the enum of shape faults says.
use Rattle.context_model.specs.ByteCodes.{ByteCode}
use Rattle.context_model.specs.ByteCodes as plain
use Rattle.atom_list.specs.declared.contexts.ShapeFault.{ShapeFault}
use Rattle.atom_list.specs.declared.contexts.ShapeFault.TheVariants.{BadPrefix, BadIndex, LevelJump, OutOfOrder}

-- What a fault says.
abbrev pub shape_fault_code_of : ShapeFault → ByteCode
shape_fault_code_of BadPrefix = plain.ByteCode.BadPrefix
shape_fault_code_of BadIndex = plain.ByteCode.BadIndex
shape_fault_code_of LevelJump = plain.ByteCode.LevelJump
shape_fault_code_of OutOfOrder = plain.ByteCode.OutOfOrder
