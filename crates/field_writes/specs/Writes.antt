-- Writes: a text that says one value for a field.
use Rattle.std.specs.Prelude.{◌≡◌, ◌≢◌, ◌⊎◌, ℕ, zero, suc, ◌^◌, ◌<◌, true, List, [], ◌∷◌, ◌++◌, All, codes, Option, None, Some}
use Rattle.std.specs.List.{slice_get}
use Rattle.std.specs.Fmt.{decimal}
use Rattle.context_model.specs.declared.Form.{Form as WireForm}
use Rattle.bag_model.specs.Scalars.{ScalarValue}
use Rattle.bag_model.specs.Shapes as shapes
use Rattle.bag_model.specs.Shapes.{Shape, Nodes, Field, no_node, node}
use Rattle.bag_model.specs.Values.{Value, Values, Taint, Scalar, Set, Counter, Map, Bag, no_entry, entry, no_value, value, bottom, bottoms}
use Rattle.field_writes.specs.Literals.{IsLiteral, IsWriter}

-- The text is a write of this value to a field of the shape, where this form is asked for: a taint
-- is put on, a scalar is set, a set and a map get one element and one key, a counter gets the count
-- of one writer, and of a bag one field is written.
abbrev mutual
  pub IsWrite : WireForm → Shape → Value → List ℕ → Type 0
  IsWrite form shapes.Taint v text = (v ≡ Taint true) × (text ≡ codes "on")
  IsWrite form (shapes.Scalar pick kind) v text =
      (s : ScalarValue) × IsLiteral form kind s text × (v ≡ Scalar pick (Some s))
  IsWrite form (shapes.Set kind) v text =
      (s : ScalarValue) × IsLiteral form kind s text × (v ≡ Set kind (s ∷ []))
  IsWrite form shapes.Counter v text =
      (writer : List ℕ) × (count : ℕ) × (first : List ℕ) × IsWriter form writer first
      × (count < 2 ^ 64)
      × (text ≡ first ++ codes ":" ++ decimal count) × (v ≡ Counter ((writer, count) ∷ []))
  IsWrite form (shapes.Map kind shape) v text =
      (key : ScalarValue) × (under : Value) × (first rest : List ℕ) × IsLiteral form kind key first
      × IsWrite form shape under rest
      × (text ≡ first ++ codes ":" ++ rest) × (v ≡ Map (entry key under no_entry))
  IsWrite form (shapes.Bag nodes) v text =
      (name rest : List ℕ) × (vs : Values) × AreWritten form nodes vs name rest
      × (text ≡ codes "." ++ name ++ codes "=" ++ rest) × (v ≡ Bag vs)

  -- The values of a bag where the text is a write to the first field of this name: all other fields
  -- are bottom.
  pub AreWritten : WireForm → Nodes → Values → List ℕ → List ℕ → Type 0
  AreWritten form no_node vs name text = ⊥
  AreWritten form (node own number shape nodes) vs name text =
      ((own ≡ name) × ((v : Value) × IsWrite form shape v text × (vs ≡ value v (bottoms nodes))))
      ⊎ ((own ≢ name) × ((others : Values) × AreWritten form nodes others name text
      × (vs ≡ value (bottom shape) others)))

-- The values of fields all of which are bottom except the one at a place.
abbrev pub one_at : Nodes → ℕ → Value → Values
one_at no_node place v = no_value
one_at (node name number shape nodes) zero v = value v (bottoms nodes)
one_at (node name number shape nodes) (suc place) v = value (bottom shape) (one_at nodes place v)

-- The place of the first field of this name, or none where no field has it.
abbrev pub IsFirstNamed : List Field → List ℕ → Option ℕ → Type 0
IsFirstNamed every name None = (i : ℕ) (f : Field) → slice_get every i ≡ Some f → f.name ≢ name
IsFirstNamed every name (Some place) =
    ((f : Field) × (slice_get every place ≡ Some f) × (f.name ≡ name))
    × ((i : ℕ) (f : Field) → i < place → slice_get every i ≡ Some f → f.name ≢ name)

-- No byte is an equals sign.
abbrev pub HasNoEquals : List ℕ → Type 0
HasNoEquals bytes = All (λ byte. byte ≢ 61) bytes
