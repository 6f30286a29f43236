-- How much there is in a shape and in the fields of a bag: less in each part, so that a recursion
-- over them ends.
use Rattle.std.specs.Prelude.{ℕ, ◌+◌}
use Rattle.bag_model.specs.Shapes.{Shape, Nodes, Taint, Scalar, Set, Counter, Map, Bag, no_node, node}

abbrev mutual
  -- One for the shape, one more for a map's keys, and what is inside.
  pub shape_size : Shape → ℕ
  shape_size Taint = 1
  shape_size (Scalar pick kind) = 1
  shape_size (Set kind) = 1
  shape_size Counter = 1
  shape_size (Map key value) = 2 + shape_size value
  shape_size (Bag nodes) = 1 + nodes_size nodes

  -- One for each field, and its shape.
  pub nodes_size : Nodes → ℕ
  nodes_size no_node = 0
  nodes_size (node name number shape nodes) = 1 + shape_size shape + nodes_size nodes
