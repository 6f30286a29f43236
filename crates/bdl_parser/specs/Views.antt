-- The trees of the code's types and fields.
use Rattle.bdl_parser.specs.declared.trees.BagField.{BagField}
use Rattle.bdl_parser.specs.declared.trees.Holding.TheVariants.{AsSet, AsGreatest}
use Rattle.bdl_parser.specs.declared.trees.Spot.{Spot}
use Rattle.bdl_parser.specs.declared.trees.StructField.{StructField}
use Rattle.bdl_parser.specs.declared.trees.TypeForm.{TypeForm, Scalar, Float, Double, Taint, Counter, Set', Greatest', Map', Name}
use Rattle.bdl_parser.specs.declared.trees.TypeNode.{TypeNode}
use Rattle.bdl_parser.specs.Trees.{TypeTree, BagFieldTree, StructFieldTree, scalar, float, double, taint, counter, name, leaf, held, map}

-- The tree of a form at this place.
abbrev pub tree_at : Spot → TypeForm → TypeTree
tree_at spot (Scalar word) = leaf (scalar word) spot
tree_at spot Float = leaf float spot
tree_at spot Double = leaf double spot
tree_at spot Taint = leaf taint spot
tree_at spot Counter = leaf counter spot
tree_at spot (Name text) = leaf (name text) spot
tree_at spot (Set' p inner form) = held AsSet (tree_at inner form) spot
tree_at spot (Greatest' p inner form) = held AsGreatest (tree_at inner form) spot
tree_at spot (Map' p key form q value body) = map (tree_at key form) (tree_at value body) spot

-- The tree of a type.
abbrev pub tree_of : TypeNode → TypeTree
tree_of node = tree_at node.at node.form

-- The tree of a bag's field.
abbrev pub bag_field_of : BagField → BagFieldTree
bag_field_of field =
    record { kind = tree_of field.kind; name = field.name; name_at = field.name_at; number = field.number; number_at = field.number_at }

-- The tree of a struct's field.
abbrev pub struct_field_of : StructField → StructFieldTree
struct_field_of field =
    record { kind = tree_of field.kind; name = field.name; name_at = field.name_at }
