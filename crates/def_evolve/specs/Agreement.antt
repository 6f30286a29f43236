-- When an old value and a new one of matched fields agree, and what is spelled rightly for both.
use Rattle.std.specs.Prelude.{◌≡◌, ◌⊎◌, ℕ, List, []}
use Rattle.context_model.specs.Orders.{Path, IsIn}
use Rattle.context_model.specs.KeyedMerge.{keys_of, EachPair, IsAt}
use Rattle.bag_model.specs.Scalars.{ScalarValue}
use Rattle.bag_model.specs.Shapes.{Shape, Nodes, Field, Taint, Scalar, Set, Counter, Map, Bag, no_node, node, fields}
use Rattle.bag_model.specs.Values.{Value, Entries, Values, Taint, Scalar, Set, Counter, Map, Bag, no_entry, no_value, value, pairs}
use Rattle.bag_model.specs.Readings.{key_path, node_path}
use Rattle.bag_model.specs.Typed.{IsSpelling, IsTyped}

-- ---- the parts of shapes and values

-- The fields of a bag.
abbrev pub bag_nodes : Shape → Nodes
bag_nodes (Bag nodes) = nodes
bag_nodes other = no_node

-- The shape of a map's values.
abbrev pub value_shape : Shape → Shape
value_shape (Map key shape) = shape
value_shape other = other

-- The values of a bag's fields.
abbrev pub bag_values : Value → Values
bag_values (Bag vs) = vs
bag_values other = no_value

-- The entries of a map.
abbrev pub entries_in : Value → Entries
entries_in (Map es) = es
entries_in other = no_entry

-- The scalars of a set.
abbrev pub elements_of : Value → List ScalarValue
elements_of (Set kind vs) = vs
elements_of other = []

-- A bag with these fields and values has a field with the number, of this shape and with this
-- value.
abbrev pub HasField : Nodes → Values → ℕ → Shape → Value → Type 0
HasField no_node ws number shape w = ⊥
HasField (node name own other nodes) no_value number shape w = ⊥
HasField (node name own other nodes) (value u ws) number shape w =
    ((own ≡ number) × (other ≡ shape) × (u ≡ w)) ⊎ HasField nodes ws number shape w

-- ---- values that agree

-- Two maps have the same keys, and at each key the fact holds of the two values.
abbrev pub AgreeAtKeys : (Value → Value → Type 0) → Entries → Entries → Type 0
AgreeAtKeys holds es fs =
    (keys_of (pairs es) ≡ keys_of (pairs fs))
    × EachPair (λ key v. (w : Value) → IsAt key w (pairs fs) → holds v w) (pairs es)

abbrev mutual
  -- An old value and a new one agree, where their fields have these shapes: they are equal, but
  -- sets have equal elements, maps have equal keys with values that agree, and of bags only the
  -- fields are looked at that both have.
  pub Agree : Shape → Shape → Value → Value → Type 0
  Agree Taint new v w = v ≡ w
  Agree (Scalar pick kind) new v w = v ≡ w
  Agree (Set kind) new v w = elements_of v ≡ elements_of w
  Agree Counter new v w = v ≡ w
  Agree (Map key shape) new v w =
      AgreeAtKeys (Agree shape (value_shape new)) (entries_in v) (entries_in w)
  Agree (Bag nodes) new v w = AgreeEach nodes (bag_nodes new) (bag_values v) (bag_values w)

  -- The values of an old bag's fields agree with those of a new bag's fields that have the same
  -- numbers.
  pub AgreeEach : Nodes → Nodes → Values → Values → Type 0
  AgreeEach no_node others vs ws = Unit {0}
  AgreeEach (node name number shape nodes) others no_value ws = ⊥
  AgreeEach (node name number shape nodes) others (value v vs) ws =
      ((other : Shape) (w : Value) → HasField others ws number other w → Agree shape other v w)
      × AgreeEach nodes others vs ws

-- ---- what is spelled rightly for both

-- The kind of a map's keys spells these bytes.
abbrev pub IsKeySpelling : Shape → List ℕ → Type 0
IsKeySpelling (Map kind shape) key = IsSpelling kind key
IsKeySpelling other key = ⊥

abbrev mutual
  -- Each datum and each key that is read at q, of a field of the old shape and of one of the new
  -- shape and of all fields inside that both have, is the spelling of a value of its new type.
  pub IsTypedForBoth : Shape → Shape → (Path → Type 0) → Path → Type 0
  IsTypedForBoth Taint new P q = IsTyped new P q
  IsTypedForBoth (Scalar pick kind) new P q = IsTyped new P q
  IsTypedForBoth (Set kind) new P q = IsTyped new P q
  IsTypedForBoth Counter new P q = IsTyped new P q
  IsTypedForBoth (Map kind shape) new P q =
      (key : List ℕ) → P (key_path q key)
      → IsKeySpelling new key × IsTypedForBoth shape (value_shape new) P (key_path q key)
  IsTypedForBoth (Bag nodes) new P q = AreTypedForBoth nodes (bag_nodes new) P q

  -- Each datum and each key that is read at q of the fields that an old bag and a new one both
  -- have, and of all fields inside that both have, is the spelling of a value of its new type.
  pub AreTypedForBoth : Nodes → Nodes → (Path → Type 0) → Path → Type 0
  AreTypedForBoth no_node others P q = Unit {0}
  AreTypedForBoth (node name number shape nodes) others P q =
      ((other : Field) → IsIn other (fields others) → other.number ≡ number
      → IsTypedForBoth shape other.shape P (node_path q number))
      × AreTypedForBoth nodes others P q
