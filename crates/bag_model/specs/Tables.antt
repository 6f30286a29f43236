-- What fields make a table.
use Rattle.std.specs.Prelude.{◌≡◌, ◌≢◌, ℕ, ◌+◌, ◌^◌, ◌<◌, ◌≤◌, max, true, []}
use Rattle.std.specs.List.{AllByRecursion}
use Rattle.context_model.specs.declared.TheConstants.{LEVELS_MAX}
use Rattle.bag_model.specs.declared.TheConstants.{FIELDS_MAX}
use Rattle.bag_model.specs.Scalars as scalars
pub use Rattle.bag_model.specs.Words.{is_letter, is_word, is_name, reserved_words}
use Rattle.bag_model.specs.Shapes.{Shape, Nodes, Field, fields, Taint, Scalar, Set, Counter, Map, Bag, no_node, node}

-- A struct has at least one field.
abbrev pub IsScalarKind : scalars.ScalarKind → Type 0
IsScalarKind (scalars.ScalarKind.One word) = Unit {0}
IsScalarKind (scalars.ScalarKind.Packed words) = words ≢ []

-- A key of a map is no struct.
abbrev pub IsKeyKind : scalars.ScalarKind → Type 0
IsKeyKind (scalars.ScalarKind.One word) = Unit {0}
IsKeyKind (scalars.ScalarKind.Packed words) = ⊥

-- In each bag the numbers rise and the names differ; each name is one of the definition language,
-- each number has 16 bits.
abbrev mutual
  pub IsShape : Shape → Type 0
  IsShape Taint = Unit {0}
  IsShape (Scalar pick kind) = IsScalarKind kind
  IsShape (Set kind) = IsScalarKind kind
  IsShape Counter = Unit {0}
  IsShape (Map key value) = IsKeyKind key × IsShape value
  IsShape (Bag nodes) = AreFields nodes

  -- Each field of a bag has a name of the definition language, a number of 16 bits and a shape that
  -- is right inside, and the fields after it have greater numbers and other names.
  pub AreFields : Nodes → Type 0
  AreFields no_node = Unit {0}
  AreFields (node name number shape nodes) =
      (is_name name ≡ true) × (number < 2 ^ 16) × IsShape shape
      × AllByRecursion (λ (other : Field). (number < other.number) × (name ≢ other.name))
      (fields nodes) × AreFields nodes

-- The levels of headers under a field's own: one for the keys of a counter or a map, and those that
-- a map's value and a bag's fields take.
abbrev mutual
  pub levels_under : Shape → ℕ
  levels_under Taint = 0
  levels_under (Scalar pick kind) = 0
  levels_under (Set kind) = 0
  levels_under Counter = 1
  levels_under (Map key value) = 1 + levels_under value
  levels_under (Bag nodes) = levels nodes

  -- The levels of headers that the fields of a bag take.
  pub levels : Nodes → ℕ
  levels no_node = 0
  levels (node name number shape nodes) = max (1 + levels_under shape) (levels nodes)

-- The number of fields inside a field of this shape, also of those inside the values of a map.
abbrev mutual
  pub nodes_under : Shape → ℕ
  nodes_under Taint = 0
  nodes_under (Scalar pick kind) = 0
  nodes_under (Set kind) = 0
  nodes_under Counter = 0
  nodes_under (Map key value) = nodes_under value
  nodes_under (Bag nodes) = node_count nodes

  -- The number of a bag's fields and of all fields inside them, also of those inside the values of
  -- maps.
  pub node_count : Nodes → ℕ
  node_count no_node = 0
  node_count (node name number shape nodes) = 1 + nodes_under shape + node_count nodes

-- The fields make a table: each bag is one, and neither the levels of headers nor the fields are
-- too many.
pub record IsTable (nodes : Nodes) : Type 0 where
  pub well_formed : AreFields nodes
  pub shallow : levels nodes ≤ LEVELS_MAX
  pub small : node_count nodes ≤ FIELDS_MAX
