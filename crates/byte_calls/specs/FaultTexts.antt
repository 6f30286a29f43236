-- The texts of faults.
use Rattle.std.specs.Prelude.{ℕ, List, ◌++◌, codes}
use Rattle.std.specs.Fmt.{decimal}
use Rattle.context_model.specs.ByteCodes.{code_name}
use Rattle.wire_bytes.specs.Reading.{byte_code_of}
use Rattle.byte_forward.specs.FaultTexts.{size_text}
use Rattle.byte_calls.specs.declared.refusals.Refusal.{Refusal}
use Rattle.byte_calls.specs.declared.refusals.Refusal.TheVariants as refusals

-- The text of a refusal: which context, how many bytes of it come before the fault, and its code.
abbrev pub refusal_text : Refusal → List ℕ
refusal_text (refusals.Fault context offset code) =
    codes "context "
    ++ (decimal context ++
    (codes " offset " ++ (decimal offset ++ (codes " " ++ code_name (byte_code_of code)))))
refusal_text refusals.Memory = codes "out of memory"
refusal_text (refusals.Room size) = size_text size
