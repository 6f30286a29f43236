-- What reads the literals of bytes back.
use Rattle.std.specs.Prelude.{ℕ, ◌≤◌, List, length, Some}
use Rattle.std.specs.Str.{IsUtf8}
use Rattle.hex.specs.Hex.{IsBytes}
use Rattle.context_model.specs.declared.Form.{Form}
use Rattle.bag_model.specs.declared.Pick.{Pick}
use Rattle.bag_model.specs.declared.words.ScalarWord.TheVariants.{Str, Bytes}
use Rattle.bag_model.specs.Scalars.{ScalarKind, ScalarValue, Text, Octets}
use Rattle.bag_model.specs.Shapes as shapes
use Rattle.bag_model.specs.Values.{Scalar}
use Rattle.field_writes.specs.Literals.{IsLiteral, most_payload}
use Rattle.field_writes.specs.Writes.{IsWrite}
use Rattle.piece_calls.specs.Quoting.{literal_text}
use Rattle.piece_calls.specs.declared.quoting.Literal.TheVariants as literals

-- Of a text that an atom has room for where this form is asked for, the string says this text; of
-- such bytes the digits say these bytes. So each is a write of its value to a scalar, and an element
-- of a set, a key of a map or a writer of a counter likewise.
pub record QuotesReadBack : Type 0 where
  pub text : (form : Form) (bytes : List ℕ) → IsUtf8 bytes → length bytes ≤ most_payload form
      → IsLiteral form (ScalarKind.One Str) (ScalarValue.One (Text bytes))
      (literal_text literals.String bytes)
  pub octets : (form : Form) (bytes : List ℕ) → IsBytes bytes → length bytes ≤ most_payload form
      → IsLiteral form (ScalarKind.One Bytes) (ScalarValue.One (Octets bytes))
      (literal_text literals.Bytes bytes)
  pub write : (form : Form) (pick : Pick) (bytes : List ℕ) → IsUtf8 bytes
      → length bytes ≤ most_payload form
      → IsWrite form (shapes.Scalar pick (ScalarKind.One Str))
      (Scalar pick (Some (ScalarValue.One (Text bytes)))) (literal_text literals.String bytes)
