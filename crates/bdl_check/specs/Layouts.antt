-- The fields of a bag as those of a table, with the bags that they name in place.
use Rattle.std.specs.Prelude.{◌≡◌, ◌≤◌, ℕ, zero, suc, Option, None, Some, List, [], ◌∷◌, map}
use Rattle.std.specs.List.{filter_map}
use Rattle.std.specs.List.Sorted.{IsPermutation, IsStrictlyIncreasing}
use Rattle.std.specs.Option.{option_and_then}
use Rattle.bag_model.specs.declared.Pick.TheVariants.{Least, Greatest}
use Rattle.bag_model.specs.Scalars as scalars
use Rattle.bag_model.specs.Shapes.{Shape, Nodes, Field, fields, Taint, Scalar, Set, Counter, Map, Bag as BagOf}
use Rattle.bag_model.specs.Tables.{levels_under}
use Rattle.bdl_check.specs.Declarations.{Placed, decl_named}
use Rattle.bdl_parser.specs.declared.trees.Decl.{Decl}
use Rattle.bdl_parser.specs.declared.trees.Decl.TheVariants.{Bag, Struct}
use Rattle.bdl_parser.specs.declared.trees.Holding.{Holding}
use Rattle.bdl_parser.specs.declared.trees.Holding.TheVariants.{AsSet, AsGreatest}
use Rattle.bdl_parser.specs.Trees as trees

-- The word that a type is, if it is one.
abbrev pub word_of_type : trees.TypeTree → Option scalars.Word
word_of_type (trees.leaf (trees.scalar word) spot) = Some word
word_of_type _ = None

-- The words of a struct's fields, in the order of the text.
abbrev pub struct_words : List trees.StructFieldTree → List scalars.Word
struct_words fields = filter_map (λ field. word_of_type field.kind) fields

-- The words of a declared struct's fields, in the order of the text; a bag has none.
abbrev pub words_of_decl : Decl → List scalars.Word
words_of_decl (Bag own spot list) = []
words_of_decl (Struct own spot list) = struct_words list

-- The kind of scalars that a declaration is: a struct is one of its words.
abbrev pub kind_of_decl : Decl → Option scalars.ScalarKind
kind_of_decl (Bag own spot list) = None
kind_of_decl (Struct own spot list) = Some (scalars.ScalarKind.Packed (struct_words list))

-- The kind of scalars that a type is, if it is one.
abbrev pub kind_in : List Placed → trees.TypeTree → Option scalars.ScalarKind
kind_in ds (trees.leaf (trees.scalar word) spot) = Some (scalars.ScalarKind.One word)
kind_in ds (trees.leaf (trees.name text) spot) =
    option_and_then (λ d. kind_of_decl d.decl) (decl_named ds text)
kind_in ds _ = None

-- How the fields of a bag are laid out.
abbrev pub Layout : Type 1
Layout = List trees.BagFieldTree → Nodes → Type 0

-- The shape of a field that holds scalars of this kind.
abbrev pub held_shape : Holding → scalars.ScalarKind → Shape
held_shape AsSet kind = Set kind
held_shape AsGreatest kind = Scalar Greatest kind

-- The shape of a field whose type is the name of a declaration: a struct is a scalar, and a bag is
-- in place.
abbrev pub IsShapeOfDecl : Layout → Decl → Shape → Type 0
IsShapeOfDecl LaysOut (Bag own spot list) shape =
    (nodes : Nodes) × LaysOut list nodes × (shape ≡ BagOf nodes)
IsShapeOfDecl LaysOut (Struct own spot list) shape =
    shape ≡ Scalar Least (scalars.ScalarKind.Packed (struct_words list))

-- The shape of a field of this type.
abbrev pub IsShapeOf : List Placed → Layout → trees.TypeTree → Shape → Type 0
IsShapeOf ds LaysOut (trees.leaf (trees.scalar word) spot) shape =
    shape ≡ Scalar Least (scalars.ScalarKind.One word)
IsShapeOf ds LaysOut (trees.leaf trees.float spot) shape = ⊥
IsShapeOf ds LaysOut (trees.leaf trees.double spot) shape = ⊥
IsShapeOf ds LaysOut (trees.leaf trees.taint spot) shape = shape ≡ Taint
IsShapeOf ds LaysOut (trees.leaf trees.counter spot) shape = shape ≡ Counter
IsShapeOf ds LaysOut (trees.leaf (trees.name text) spot) shape =
    (d : Placed) × (decl_named ds text ≡ Some d) × IsShapeOfDecl LaysOut d.decl shape
IsShapeOf ds LaysOut (trees.held holding element spot) shape =
    (kind : scalars.ScalarKind) × (kind_in ds element ≡ Some kind)
    × (shape ≡ held_shape holding kind)
IsShapeOf ds LaysOut (trees.map key value spot) shape =
    (kind : scalars.ScalarKind) × (inner : Shape) × (kind_in ds key ≡ Some kind)
    × IsShapeOf ds LaysOut value inner × (shape ≡ Map kind inner)

-- A field of a table is this field of a bag.
pub record IsFieldOf (ds : List Placed) (LaysOut : Layout) (tree : trees.BagFieldTree)
    (field : Field) : Type 0 where
  pub name_is : field.name ≡ tree.name
  pub number_is : field.number ≡ tree.number
  pub shape : IsShapeOf ds LaysOut tree.kind field.shape

-- Each field of a table is the bag's field in its place, and there are as many.
abbrev pub AreFieldsOf : List Placed → Layout → List trees.BagFieldTree → List Field → Type 0
AreFieldsOf ds LaysOut [] [] = Unit {0}
AreFieldsOf ds LaysOut (tree ∷ list) (field ∷ more) =
    IsFieldOf ds LaysOut tree field × AreFieldsOf ds LaysOut list more
AreFieldsOf ds LaysOut _ _ = ⊥

-- The fields in ascending order of number, with bags in place that are laid out so.
pub record IsLaidOutInOrder (ds : List Placed) (LaysOut : Layout) (list : List trees.BagFieldTree)
    (nodes : Nodes) : Type 0 where
  pub sorted : List trees.BagFieldTree
  pub same : IsPermutation list sorted
  pub rising : IsStrictlyIncreasing (map (λ (tree : trees.BagFieldTree). tree.number) sorted)
  pub each : AreFieldsOf ds LaysOut sorted (fields nodes)

-- The fields of a bag as those of a table, where at most `room` bags are inside one another, this
-- one among them.
abbrev pub IsLaidOutWithin : ℕ → List Placed → Layout
IsLaidOutWithin zero ds list nodes = ⊥
IsLaidOutWithin (suc room) ds list nodes = IsLaidOutInOrder ds (IsLaidOutWithin room ds) list nodes

-- The fields of a bag as those of a table, however deep its bags are.
abbrev pub IsLaidOut : List Placed → Layout
IsLaidOut ds list nodes = (room : ℕ) × IsLaidOutWithin room ds list nodes

-- A field of this type has a shape whose headers take at most `room` levels under the field's own.
abbrev pub HasShapeIn : List Placed → trees.TypeTree → ℕ → Type 0
HasShapeIn ds tree room =
    (shape : Shape) × IsShapeOf ds (IsLaidOut ds) tree shape × (levels_under shape ≤ room)

-- A field whose type is the name of this declaration has a shape whose headers take at most `room`
-- levels under the field's own.
abbrev pub HasDeclShapeIn : List Placed → Decl → ℕ → Type 0
HasDeclShapeIn ds decl room =
    (shape : Shape) × IsShapeOfDecl (IsLaidOut ds) decl shape × (levels_under shape ≤ room)
