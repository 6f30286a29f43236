-- The texts of faults.
use Rattle.std.specs.Prelude.{ℕ, List}
use Rattle.context_model.specs.ByteCodes.{code_name}
use Rattle.atom_list.specs.declared.contexts.ShapeFault.{ShapeFault}
use Rattle.atom_list.specs.Contexts.{shape_fault_code_of}

-- The text of a fault of a list's shape: the name of its code.
abbrev pub shape_fault_text : ShapeFault → List ℕ
shape_fault_text fault = code_name (shape_fault_code_of fault)
