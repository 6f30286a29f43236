-- The texts of faults.
use Rattle.std.specs.Prelude.{ℕ, List, ◌++◌, codes}
use Rattle.std.specs.Fmt.{decimal}
use Rattle.context_model.specs.ByteCodes.{code_name}
use Rattle.wire_bytes.specs.Reading.{byte_code_of}
use Rattle.byte_forward.specs.declared.refusals.ByteRefusal.{ByteRefusal}
use Rattle.byte_forward.specs.declared.refusals.ByteRefusal.TheVariants as refusals

-- How many bytes a buffer has to have.
abbrev pub size_text : ℕ → List ℕ
size_text size = codes "size " ++ decimal size

-- The text of a refusal: which context, how many bytes of it come before the fault, and its code;
-- or how many bytes are needed.
abbrev pub byte_refusal_text : ByteRefusal → List ℕ
byte_refusal_text (refusals.Fault context offset code) =
    codes "context "
    ++ (decimal context ++
    (codes " offset " ++ (decimal offset ++ (codes " " ++ code_name (byte_code_of code)))))
byte_refusal_text (refusals.Room size) = size_text size
