-- The texts of a map's entries and of a bag's fields, one by one.
use Rattle.std.proofs.Common.{◌≡◌, ℕ, zero, suc, ◌≤◌, min, List, ◌∷◌, ◌++◌, length, map, codes, Some, refl, ap, arith}
use Rattle.std.specs.List.{slice_get}
use Rattle.bag_model.specs.Scalars.{ScalarValue}
use Rattle.bag_model.specs.Shapes.{Shape, Nodes, Field, fields, no_node, node}
use Rattle.bag_model.specs.Values.{Value, Entries, Values, no_entry, entry, no_value, value, pairs, values_list, value_count, value_count_of_entries, value_count_of_values}
use Rattle.text_model.specs.ScalarTexts.{scalar_text}
use Rattle.text_model.specs.ValueTexts.{value_text, entry_texts, field_texts}

-- A key with its value.
abbrev pub entry_text : Shape → ScalarValue × Value → List ℕ
entry_text shape pair = scalar_text pair.0 ++ codes ":" ++ value_text shape pair.1

-- A field with its value.
abbrev pub field_text : Field → Value → List ℕ
field_text field v = field.name ++ codes "=" ++ value_text field.shape v

pub entries_mapped : (shape : Shape) (es : Entries) → entry_texts shape es ≡ map (entry_text shape) (pairs es)
entries_mapped shape no_entry = refl
entries_mapped shape (entry key v es) = ap (λ l. entry_text shape (key, v) ∷ l) (entries_mapped shape es)

pub get_field_text : (nodes : Nodes) (vs : Values) (at : ℕ) (field : Field) (v : Value)
    → slice_get (fields nodes) at ≡ Some field → slice_get (values_list vs) at ≡ Some v
    → slice_get (field_texts nodes vs) at ≡ Some (field_text field v)
get_field_text no_node vs at field v is is_value = absurd (cc is)
get_field_text (node name number shape nodes) no_value at field v is is_value = absurd (cc is_value)
get_field_text (node name number shape nodes) (value w ws) zero field v is is_value =
    let first : record { name = name; number = number; shape = shape } ≡ field = cc is in
    let second : w ≡ v = cc is_value in
    λ i. Some (field_text (first i) (second i))
get_field_text (node name number shape nodes) (value w ws) (suc at) field v is is_value = get_field_text nodes ws at field v is is_value

pub length-field_texts : (nodes : Nodes) (vs : Values) → length (field_texts nodes vs) ≡ min (length (fields nodes)) (length (values_list vs))
length-field_texts no_node no_value = refl
length-field_texts no_node (value w ws) = omega arith
length-field_texts (node name number shape nodes) no_value = omega arith
length-field_texts (node name number shape nodes) (value w ws) = omega (arith, length-field_texts nodes ws)

-- A value is smaller than what it is in.
pub entry_size : (es : Entries) (at : ℕ) (pair : ScalarValue × Value) → slice_get (pairs es) at ≡ Some pair → value_count pair.1 ≤ value_count_of_entries es
entry_size no_entry at pair is = absurd (cc is)
entry_size (entry key v es) zero pair is = let same : (key, v) ≡ pair = cc is in omega (arith, ap (λ (p : ScalarValue × Value). value_count p.1) same)
entry_size (entry key v es) (suc at) pair is = omega (arith, entry_size es at pair is)

pub value_size : (vs : Values) (at : ℕ) (v : Value) → slice_get (values_list vs) at ≡ Some v → value_count v ≤ value_count_of_values vs
value_size no_value at v is = absurd (cc is)
value_size (value w ws) zero v is = let same : w ≡ v = cc is in omega (arith, ap value_count same)
value_size (value w ws) (suc at) v is = omega (arith, value_size ws at v is)
