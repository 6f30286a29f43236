-- Known objects and their texts, computed from the definitions.
use Rattle.std.proofs.Common.{◌≡◌, [], ◌∷◌, ◌++◌, Some, codes, refl}
use Rattle.serde_json.proofs.OnLiterals.{serde_json_on_literals}
use Rattle.bag_model.specs.declared.Pick.TheVariants.{Least}
use Rattle.bag_model.specs.declared.words.ScalarWord.TheVariants.{Str}
use Rattle.bag_model.specs.Scalars as scalars
use Rattle.bag_model.specs.Scalars.{ScalarValue, Text}
use Rattle.bag_model.specs.Shapes.{Shape}
use Rattle.bag_model.specs.Slots.{SlotAt}
use Rattle.bag_model.specs.Values.{Scalar}
use Rattle.bag_scan.specs.declared.states.State.TheVariants.{Partial}
use Rattle.serde_json.specs.Data.{Data}
use Rattle.serde_json.specs.Written.{compact_text}
use Rattle.context_json.specs.Objects.{slot_object, object_line}

-- A slot of a string in a bag.
abbrev pub note : SlotAt
note = record { names = codes "sub" ∷ codes "note" ∷ []; numbers = 1 ∷ 2 ∷ []; shape = Shape.Scalar Least (scalars.ScalarKind.One Str) }

abbrev marked : Data
marked = slot_object note Partial (Scalar Least (Some (ScalarValue.One (Text (codes "a\"\\")))))

slot_row : compact_text marked ≡ codes "{\"path\":\"sub.note\",\"state\":\"partial\",\"text\":\"\\\"a\\\\\\\"\\\\\\\\\\\"\"}"
unfolding serde_json_on_literals
slot_row = refl

line_row : object_line marked ≡ codes "sub.note partial \"a\\\"\\\\\"" ++ 10 ∷ []
line_row = refl
