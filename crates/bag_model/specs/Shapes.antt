-- Shapes of fields, and the fields of a bag.
use Rattle.std.specs.Prelude.{ℕ, List, [], ◌∷◌}
use Rattle.bag_model.specs.declared.Pick.{Pick}
use Rattle.bag_model.specs.Scalars.{ScalarKind}

-- A field is a taint, a scalar of which the least or the greatest value stays, a set of scalars, a
-- counter, a map to one shape, or a bag of fields.
mutual
  pub data Shape : Type 0 where
    Taint : Shape
    Scalar : Pick → ScalarKind → Shape
    Set : ScalarKind → Shape
    Counter : Shape
    Map : ScalarKind → Shape → Shape
    Bag : Nodes → Shape

  -- The fields of a bag in order, each with its name, its number and its shape.
  pub data Nodes : Type 0 where
    no_node : Nodes
    node : List ℕ → ℕ → Shape → Nodes → Nodes

-- A field by itself.
pub record Field : Type 0 where
  pub name : List ℕ
  pub number : ℕ
  pub shape : Shape

-- The fields as a list.
abbrev pub fields : Nodes → List Field
fields no_node = []
fields (node name number shape nodes) =
    record { name = name; number = number; shape = shape } ∷ fields nodes

-- The fields of a list.
abbrev pub nodes_from : List Field → Nodes
nodes_from [] = no_node
nodes_from (field ∷ list) = node field.name field.number field.shape (nodes_from list)
