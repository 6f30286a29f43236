-- The texts of faults.
use Rattle.std.specs.Prelude.{ℕ, List, ◌++◌, codes}
use Rattle.std.specs.Fmt.{decimal}
use Rattle.context_model.specs.ByteCodes.{code_name}
use Rattle.wire_bytes.specs.Reading.{byte_code_of}
use Rattle.table_text.specs.Faults.{table_code_name}
use Rattle.place_calls.specs.declared.refusals.PlaceRefusal.{PlaceRefusal}
use Rattle.place_calls.specs.declared.refusals.PlaceRefusal.TheVariants as refusals

-- The text of a refusal: the line of the table, which of the chosen numbers, or how many bytes come
-- before the fault, and the code; or how many places there are.
abbrev pub place_refusal_text : PlaceRefusal → List ℕ
place_refusal_text (refusals.Table line code) =
    codes "line " ++ (decimal line ++ (codes " " ++ table_code_name code))
place_refusal_text (refusals.NoSlot which) = codes "slot " ++ (decimal which ++ codes " NoSlot")
place_refusal_text (refusals.Fault offset code) =
    codes "offset " ++ (decimal offset ++ (codes " " ++ code_name (byte_code_of code)))
place_refusal_text refusals.Memory = codes "out of memory"
place_refusal_text (refusals.Room size) = codes "size " ++ decimal size
