-- The texts of faults.
use Rattle.std.specs.Prelude.{ℕ, List, ◌++◌, codes}
use Rattle.std.specs.Fmt.{decimal}
use Rattle.context_model.specs.ByteCodes.{code_name}
use Rattle.wire_bytes.specs.Reading.{byte_code_of}
use Rattle.checkout_client.specs.declared.FieldFault.{FieldFault}
use Rattle.checkout_client.specs.declared.FieldFault.TheVariants as faults

-- The text of why a field wasn't read: how many bytes come before the fault, or the place of the
-- atom, and the code.
abbrev pub field_fault_text : FieldFault → List ℕ
field_fault_text faults.NoField = codes "NoField"
field_fault_text (faults.NoContext offset code) =
    codes "offset " ++ (decimal offset ++ (codes " " ++ code_name (byte_code_of code)))
field_fault_text (faults.IllTyped place) = codes "place " ++ (decimal place ++ codes " IllTyped")
field_fault_text faults.Memory = codes "out of memory"
