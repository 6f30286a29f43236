-- A known report and its text, computed from the definitions.
use Rattle.std.proofs.Common.{◌≡◌, [], ◌∷◌, Some, codes, refl}
use Rattle.std.specs.Fmt.{digits}
use Rattle.hex.specs.Hex.{encode_with}
use Rattle.serde_json.proofs.OnLiterals.{serde_json_on_literals}
use Rattle.context_model.specs.Framing.{base_128}
use Rattle.context_model.specs.declared.Form.TheVariants.{One}
use Rattle.bag_model.specs.declared.Pick.TheVariants.{Least}
use Rattle.bag_model.specs.Scalars.{ScalarValue, Text}
use Rattle.bag_model.specs.Values.{Scalar}
use Rattle.bag_scan.specs.declared.states.State.TheVariants.{Exact}
use Rattle.text_lines.specs.HexLines.{hex_text}
use Rattle.serde_json.specs.Data.{array}
use Rattle.serde_json.specs.View.{items_of}
use Rattle.serde_json.specs.Written.{compact_text}
use Rattle.context_json.specs.Objects.{slot_object}
use Rattle.context_json.proofs.ObjectRows.{note}
use Rattle.report_json.specs.JsonReports.{step_object}

step_row : compact_text (array (items_of (step_object One [] [] 7 ∷ step_object One ((248 ∷ 1 ∷ []) ∷ []) (slot_object note Exact (Scalar Least (Some (ScalarValue.One (Text [])))) ∷ []) 10 ∷ [])))
    ≡ codes "[{\"bytes\":\"-\",\"fields\":[],\"step\":7},{\"bytes\":\"02f801\",\"fields\":[{\"path\":\"sub.note\",\"state\":\"exact\",\"text\":\"\\\"\\\"\"}],\"step\":10}]"
unfolding serde_json_on_literals hex_text encode_with base_128 digits
step_row = refl
