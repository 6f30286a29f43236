-- Known values and their texts, computed from the definitions.
use Rattle.std.proofs.Common.{◌≡◌, pos, negsuc, true, false, [], ◌∷◌, ◌++◌, Some, None, codes, refl}
use Rattle.std.specs.Fmt.{digits}
use Rattle.hex.specs.Hex.{encode_with}
use Rattle.bag_model.specs.declared.Pick.TheVariants.{Least, Greatest}
use Rattle.bag_model.specs.declared.words.ScalarWord.TheVariants.{Uint64, Str}
use Rattle.bag_model.specs.Scalars as scalars
use Rattle.bag_model.specs.Scalars.{ScalarValue, Truth, Signed, Unsigned, Text, Octets}
use Rattle.bag_model.specs.Shapes.{Shape, Nodes, no_node, node}
use Rattle.bag_model.specs.Values.{Taint, Scalar, Set, Counter, Map, Bag, no_entry, entry, no_value, value}
use Rattle.text_model.specs.ScalarTexts.{scalar_text}
use Rattle.text_model.specs.ValueTexts.{value_text}

on_row : value_text Shape.Taint (Taint true) ≡ codes "on"
on_row = refl

absent_greatest_row : value_text Shape.Counter (Scalar Greatest None) ≡ codes "-"
absent_greatest_row = refl

absent_row : value_text Shape.Counter (Scalar Least None) ≡ codes "-"
absent_row = refl

truth_row : scalar_text (ScalarValue.One (Truth false)) ≡ codes "false"
truth_row = refl

below_zero_row : scalar_text (ScalarValue.One (Signed (negsuc 11))) ≡ codes "-12"
unfolding digits
below_zero_row = refl

zero_row : scalar_text (ScalarValue.One (Signed (pos 0))) ≡ codes "0"
unfolding digits
zero_row = refl

most_row : scalar_text (ScalarValue.One (Unsigned 18446744073709551615)) ≡ codes "18446744073709551615"
unfolding digits
most_row = refl

mark_row : scalar_text (ScalarValue.One (Text (codes "a\"b"))) ≡ codes "\"a\\\"b\""
mark_row = refl

backslash_row : scalar_text (ScalarValue.One (Text (codes "\\"))) ≡ codes "\"\\\\\""
backslash_row = refl

control_row : scalar_text (ScalarValue.One (Text (0 ∷ 10 ∷ 31 ∷ 32 ∷ 126 ∷ 127 ∷ 195 ∷ []))) ≡ codes "\"\\x00\\x0a\\x1f ~\\x7f" ++ 195 ∷ codes "\""
unfolding encode_with
control_row = refl

octets_row : scalar_text (ScalarValue.One (Octets (0 ∷ 175 ∷ []))) ≡ codes "0x00af"
unfolding encode_with
octets_row = refl

no_octets_row : scalar_text (ScalarValue.One (Octets [])) ≡ codes "0x"
unfolding encode_with
no_octets_row = refl

struct_row : scalar_text (ScalarValue.Packed (Signed (pos 1) ∷ Text (codes "x") ∷ [])) ≡ codes "(1,\"x\")"
unfolding digits
struct_row = refl

set_row : value_text Shape.Taint (Set (scalars.ScalarKind.One Uint64) (ScalarValue.One (Unsigned 1) ∷ ScalarValue.One (Unsigned 2) ∷ [])) ≡ codes "{1,2}"
unfolding digits
set_row = refl

no_count_row : value_text Shape.Counter (Counter []) ≡ codes "0{}"
unfolding digits
no_count_row = refl

-- two counts of which the total passes 64 bits
counts_row : value_text Shape.Counter (Counter ((codes "a", 18446744073709551615) ∷ (codes "s", 4) ∷ [])) ≡ codes "18446744073709551619{0x61:18446744073709551615,0x73:4}"
unfolding digits encode_with
counts_row = refl

map_row : value_text (Shape.Map (scalars.ScalarKind.One Str) Shape.Counter) (Map (entry (ScalarValue.One (Text (codes "k"))) (Counter ((codes "s", 4) ∷ [])) no_entry)) ≡ codes "{\"k\":4{0x73:4}}"
unfolding digits encode_with
map_row = refl

abbrev row_nodes : Nodes
row_nodes = node (codes "a") 1 Shape.Taint (node (codes "b") 4 (Shape.Scalar Least (scalars.ScalarKind.One Str)) no_node)

bag_row : value_text (Shape.Bag row_nodes) (Bag (value (Taint true) (value (Scalar Least None) no_value))) ≡ codes "[a=on,b=-]"
bag_row = refl

-- a map of bags
nested_row : value_text (Shape.Map (scalars.ScalarKind.One Uint64) (Shape.Bag row_nodes)) (Map (entry (ScalarValue.One (Unsigned 7)) (Bag (value (Taint false) (value (Scalar Least (Some (ScalarValue.One (Text [])))) no_value))) no_entry)) ≡ codes "{7:[a=off,b=\"\"]}"
unfolding digits
nested_row = refl
