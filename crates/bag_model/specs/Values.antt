-- What fields hold: a value has the shape of its field.
use Rattle.std.specs.Prelude.{◌≡◌, ℕ, ◌+◌, ◌^◌, ◌<◌, Bool, false, List, [], ◌∷◌, Option, Some, None}
use Rattle.std.specs.List.{AllByRecursion}
use Rattle.context_model.specs.Orders.{atom_cmp, Rises}
use Rattle.context_model.specs.KeyedMerge.{keys_of, EachPair}
use Rattle.bag_model.specs.declared.Pick.{Pick}
use Rattle.bag_model.specs.Scalars.{ScalarKind, ScalarValue, scalar_cmp, IsScalarOf}
use Rattle.bag_model.specs.Shapes.{Shape, Nodes, no_node, node}

-- A taint is on or off, a scalar says which of several values stays and is there or not, a set has
-- a kind and its scalars, a counter has a count for each writer, a map has a value for each key,
-- and a bag has one for each field.
mutual
  pub data Value : Type 0 where
    Taint : Bool → Value
    Scalar : Pick → Option ScalarValue → Value
    Set : ScalarKind → List ScalarValue → Value
    Counter : List (List ℕ × ℕ) → Value
    Map : Entries → Value
    Bag : Values → Value

  -- Keys with their values.
  pub data Entries : Type 0 where
    no_entry : Entries
    entry : ScalarValue → Value → Entries → Entries

  -- The values of a bag's fields, in order.
  pub data Values : Type 0 where
    no_value : Values
    value : Value → Values → Values

-- The keys of a map with their values, as a list.
abbrev pub pairs : Entries → List (ScalarValue × Value)
pairs no_entry = []
pairs (entry key v es) = (key, v) ∷ pairs es

-- The values of a bag's fields as a list.
abbrev pub values_list : Values → List Value
values_list no_value = []
values_list (value v vs) = v ∷ values_list vs

-- Bottom, the value of a field of which nothing is said: off, absent, empty, and bottom in each
-- field of a bag.
abbrev mutual
  pub bottom : Shape → Value
  bottom Shape.Taint = Taint false
  bottom (Shape.Scalar pick kind) = Scalar pick None
  bottom (Shape.Set kind) = Set kind []
  bottom Shape.Counter = Counter []
  bottom (Shape.Map key shape) = Map no_entry
  bottom (Shape.Bag nodes) = Bag (bottoms nodes)

  -- Bottom of each field of a bag.
  pub bottoms : Nodes → Values
  bottoms no_node = no_value
  bottoms (node name number shape nodes) = value (bottom shape) (bottoms nodes)

-- The writers rise, and each has a count of 64 bits.
abbrev pub AreCounts : List (List ℕ × ℕ) → Type 0
AreCounts counts = Rises atom_cmp (keys_of counts) × EachPair (λ writer n. n < 2 ^ 64) counts

-- The value is of the shape: each scalar is of its kind and keeps the value that its shape says,
-- the scalars of a set, the writers of a counter and the keys of a map rise, a count has 64 bits,
-- and a bag has a value for each field.
abbrev mutual
  pub IsOfShape : Shape → Value → Type 0
  IsOfShape Shape.Taint (Taint on) = Unit {0}
  IsOfShape Shape.Taint other = ⊥
  IsOfShape (Shape.Scalar pick kind) (Scalar own None) = own ≡ pick
  IsOfShape (Shape.Scalar pick kind) (Scalar own (Some v)) = (own ≡ pick) × IsScalarOf kind v
  IsOfShape (Shape.Scalar pick kind) other = ⊥
  IsOfShape (Shape.Set kind) (Set own vs) =
      (own ≡ kind) × Rises scalar_cmp vs × AllByRecursion (IsScalarOf kind) vs
  IsOfShape (Shape.Set kind) other = ⊥
  IsOfShape Shape.Counter (Counter counts) = AreCounts counts
  IsOfShape Shape.Counter other = ⊥
  IsOfShape (Shape.Map kind shape) (Map es) =
      Rises scalar_cmp (keys_of (pairs es))
      × EachPair (λ key v. IsScalarOf kind key × IsOfShape shape v) (pairs es)
  IsOfShape (Shape.Map kind shape) other = ⊥
  IsOfShape (Shape.Bag nodes) (Bag vs) = AreOfShapes nodes vs
  IsOfShape (Shape.Bag nodes) other = ⊥

  -- There is a value for each field of a bag, and each is of its field's shape.
  pub AreOfShapes : Nodes → Values → Type 0
  AreOfShapes no_node no_value = Unit {0}
  AreOfShapes no_node (value v vs) = ⊥
  AreOfShapes (node name number shape nodes) no_value = ⊥
  AreOfShapes (node name number shape nodes) (value v vs) = IsOfShape shape v × AreOfShapes nodes vs

-- How many values there are: a value and all those inside it.
abbrev mutual
  pub value_count : Value → ℕ
  value_count (Taint on) = 1
  value_count (Scalar pick v) = 1
  value_count (Set kind vs) = 1
  value_count (Counter counts) = 1
  value_count (Map es) = 1 + value_count_of_entries es
  value_count (Bag vs) = 1 + value_count_of_values vs

  -- How many values there are in the entries of a map, with all those inside them.
  pub value_count_of_entries : Entries → ℕ
  value_count_of_entries no_entry = 0
  value_count_of_entries (entry key v es) = value_count v + value_count_of_entries es

  -- How many values there are in the fields of a bag, with all those inside them.
  pub value_count_of_values : Values → ℕ
  value_count_of_values no_value = 0
  value_count_of_values (value v vs) = value_count v + value_count_of_values vs
