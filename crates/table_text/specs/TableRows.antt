-- What the lines of a table say, and shapes with and without the fields of the bag that they end
-- in.
use Rattle.std.specs.Prelude.{ℕ, ◌+◌, List, [], ◌∷◌, ◌++◌}
use Rattle.bag_model.specs.Shapes.{Shape, Nodes, Taint, Scalar, Set, Counter, Map, Bag, no_node, node}
use Rattle.table_text.specs.Rows.{Row}

-- The shape as its line tells it.
abbrev pub told : Shape → Shape
told Taint = Taint
told (Scalar pick kind) = Scalar pick kind
told (Set kind) = Set kind
told Counter = Counter
told (Map key value) = Map key (told value)
told (Bag nodes) = Bag no_node

-- The shape with these fields in the bag that it ends in, if it ends in one.
abbrev pub filled : Nodes → Shape → Shape
filled nodes Taint = Taint
filled nodes (Scalar pick kind) = Scalar pick kind
filled nodes (Set kind) = Set kind
filled nodes Counter = Counter
filled nodes (Map key value) = Map key (filled nodes value)
filled nodes (Bag other) = Bag nodes

-- What the line of a field says.
abbrev pub told_row : ℕ → List ℕ → ℕ → Shape → Row
told_row depth name number shape =
    record { depth = depth; name = name; number = number; shape = told shape }

abbrev mutual
  -- What the lines of a bag's fields say at a depth.
  pub rows_of : ℕ → Nodes → List Row
  rows_of depth no_node = []
  rows_of depth (node name number shape nodes) =
      told_row depth name number shape ∷ (rows_in (depth + 1) shape ++ rows_of depth nodes)

  -- What the lines of the fields of the bag say that a shape ends in.
  pub rows_in : ℕ → Shape → List Row
  rows_in depth Taint = []
  rows_in depth (Scalar pick kind) = []
  rows_in depth (Set kind) = []
  rows_in depth Counter = []
  rows_in depth (Map key value) = rows_in depth value
  rows_in depth (Bag nodes) = rows_of depth nodes
