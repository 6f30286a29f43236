-- The levels of headers and the number of fields of a bag, as far as they matter.
use Rattle.std.specs.Prelude.{◌≡◌, ℕ, ◌<◌, ◌≤◌, min, Option, None, Some, List, length, slice_get}
use Rattle.std.specs.List.{AllByRecursion}
use Rattle.context_model.specs.declared.TheConstants.{LEVELS_MAX}
use Rattle.bag_model.specs.declared.TheConstants.{FIELDS_MAX}
use Rattle.bag_model.specs.Shapes.{Shape, Nodes}
use Rattle.bag_model.specs.Tables.{levels_under, levels, nodes_under, node_count}
use Rattle.bdl_check.specs.declared.sizes.Size.{Size}
use Rattle.bdl_check.specs.declared.sizes.TheConstants.{LEVELS_CAP, FIELDS_CAP}
use Rattle.bdl_check.specs.Declarations.{Placed, number_named}
use Rattle.bdl_check.specs.Layouts.{IsShapeOf, IsLaidOut}
use Rattle.bdl_load.specs.declared.faults.DefCode.{DefCode}
use Rattle.bdl_load.specs.declared.faults.DefCode.TheVariants.{TooDeep, TooManySlots}
use Rattle.bdl_parser.specs.declared.trees.Decl.{Decl}
use Rattle.bdl_parser.specs.declared.trees.Decl.TheVariants.{Bag, Struct}
use Rattle.bdl_parser.specs.Trees.{TypeTree, BagFieldTree}

-- The levels and the fields of a bag that is laid out so; numbers above the limits are one more
-- than these.
pub record HasSize (ds : List Placed) (list : List BagFieldTree) (size : Size) : Type 0 where
  pub nodes : Nodes
  pub laid_out : IsLaidOut ds list nodes
  pub levels_are : size.levels ≡ min (levels nodes) LEVELS_CAP
  pub fields_are : size.fields ≡ min (node_count nodes) FIELDS_CAP

-- The size of a bag; a struct takes no level and has no field of its own.
abbrev pub IsSizeOf : List Placed → Decl → Size → Type 0
IsSizeOf ds (Bag own spot list) size = HasSize ds list size
IsSizeOf ds (Struct own spot list) size = (size.levels ≡ 0) × (size.fields ≡ 0)

-- The levels under a field of this type and the fields inside it.
pub record HasTypeSize (ds : List Placed) (tree : TypeTree) (size : Size) : Type 0 where
  pub shape : Shape
  pub is : IsShapeOf ds (IsLaidOut ds) tree shape
  pub levels_are : size.levels ≡ min (levels_under shape) LEVELS_CAP
  pub fields_are : size.fields ≡ min (nodes_under shape) FIELDS_CAP

-- Where there is a size for the declaration of this number, it is its size.
abbrev pub IsSized : List Placed → List Size → ℕ → Type 0
IsSized ds sizes number =
    (d : Placed) (size : Size) → slice_get ds number ≡ Some d → slice_get sizes number ≡ Some size
    → IsSizeOf ds d.decl size

-- The declarations of these names have their sizes.
abbrev pub AreKnown : List Placed → List Size → List (List ℕ) → Type 0
AreKnown ds sizes texts = AllByRecursion
    (λ text. (number : ℕ) → number_named ds text ≡ Some number → IsSized ds sizes number) texts

-- There is a size for each declaration.
pub record AreSizes (ds : List Placed) (sizes : List Size) : Type 0 where
  pub count : length sizes ≡ length ds
  pub each : (number : ℕ) → IsSized ds sizes number

-- What is wrong with a bag of this size: it takes too many levels, or else it has too many fields.
abbrev pub IsExcess : Size → Option DefCode → Type 0
IsExcess size None = (size.levels ≤ LEVELS_MAX) × (size.fields ≤ FIELDS_MAX)
IsExcess size (Some TooDeep) = LEVELS_MAX < size.levels
IsExcess size (Some TooManySlots) = (size.levels ≤ LEVELS_MAX) × (FIELDS_MAX < size.fields)
IsExcess size (Some _) = ⊥
