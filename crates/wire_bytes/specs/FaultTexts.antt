-- The texts of faults.
use Rattle.std.specs.Prelude.{ℕ, List, ◌++◌, codes}
use Rattle.std.specs.Fmt.{decimal}
use Rattle.context_model.specs.ByteCodes.{code_name}
use Rattle.wire_bytes.specs.declared.reading.WireFault.{WireFault}
use Rattle.wire_bytes.specs.declared.reading.WireFault.TheVariants as wires
use Rattle.wire_bytes.specs.declared.contexts.ContextFault.{ContextFault}
use Rattle.wire_bytes.specs.declared.contexts.ContextFault.TheVariants as contexts
use Rattle.wire_bytes.specs.Reading.{code_of, byte_code_of}

-- The text of a fault of a list's bytes: how many bytes come before it, and its code.
abbrev pub wire_fault_text : WireFault → List ℕ
wire_fault_text (wires.At offset code) =
    codes "offset " ++ (decimal offset ++ (codes " " ++ code_name (code_of code)))
wire_fault_text wires.Memory = codes "out of memory"

-- The text of a fault of a context's bytes: how many bytes come before it, and its code.
abbrev pub context_fault_text : ContextFault → List ℕ
context_fault_text (contexts.At offset code) =
    codes "offset " ++ (decimal offset ++ (codes " " ++ code_name (byte_code_of code)))
context_fault_text contexts.Memory = codes "out of memory"
