-- The texts of faults.
use Rattle.std.specs.Prelude.{ℕ, List, ◌++◌, codes}
use Rattle.std.specs.Fmt.{decimal}
use Rattle.context_model.specs.ByteCodes.{code_name}
use Rattle.wire_bytes.specs.Reading.{byte_code_of}
use Rattle.byte_frames.specs.declared.checks.ByteFault.{ByteFault}

-- The text of a fault of a context's bytes: how many bytes come before it, and its code.
abbrev pub byte_fault_text : ByteFault → List ℕ
byte_fault_text fault =
    codes "offset " ++ (decimal fault.offset ++ (codes " " ++ code_name (byte_code_of fault.code)))
