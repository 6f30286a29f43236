-- The faults of a type.
use Rattle.std.specs.Prelude.{ℕ, Bool, true, false, not, ◌||◌, List, ◌++◌, Option, Some}
use Rattle.std.specs.Option.{is_some}
use Rattle.bdl_load.specs.declared.faults.DefCode.TheVariants.{FloatingType, UnknownName, BadKeyType, BadStructField}
use Rattle.bdl_load.specs.declared.faults.Finding.{Finding}
use Rattle.bdl_check.specs.declared.declarations.DeclKind.{DeclKind}
use Rattle.bdl_check.specs.declared.declarations.DeclKind.TheVariants.{Struct as IsStruct}
use Rattle.bdl_check.specs.declared.types.Role.{Role}
use Rattle.bdl_check.specs.declared.types.Role.TheVariants.{StructField, Element, Key, MapValue}
use Rattle.bdl_check.specs.Faults.{when}
use Rattle.bdl_load.specs.Faults.{found}
use Rattle.bdl_parser.specs.declared.trees.Spot.{Spot}
use Rattle.bdl_parser.specs.Trees.{TypeTree, scalar, float, double, name, leaf, held, map}

-- What each name was declared as.
abbrev pub Kinds : Type 0
Kinds = List ℕ → Option DeclKind

-- The place of a type's first token.
abbrev pub type_place : TypeTree → Spot
type_place (leaf l spot) = spot
type_place (held holding element spot) = spot
type_place (map key value spot) = spot

-- A scalar word.
abbrev pub is_scalar : TypeTree → Bool
is_scalar (leaf (scalar word) spot) = true
is_scalar _ = false

-- `float` or `double`.
abbrev pub is_floating : TypeTree → Bool
is_floating (leaf float spot) = true
is_floating (leaf double spot) = true
is_floating _ = false

-- A name that no declaration has.
abbrev pub is_unknown : Kinds → TypeTree → Bool
is_unknown kinds (leaf (name text) spot) = not (is_some (kinds text))
is_unknown kinds _ = false

-- Whether a name is declared, and as a struct.
abbrev pub is_struct : Option DeclKind → Bool
is_struct (Some IsStruct) = true
is_struct _ = false

-- A struct's name.
abbrev pub names_struct : Kinds → TypeTree → Bool
names_struct kinds (leaf (name text) spot) = is_struct (kinds text)
names_struct kinds _ = false

-- The elements of a set and of a greatest are scalars or structs, and the keys of a map are
-- scalars.
abbrev pub is_bad_key : Kinds → Role → TypeTree → Bool
is_bad_key kinds Element type = not (is_scalar type || names_struct kinds type)
is_bad_key kinds Key type = not (is_scalar type)
is_bad_key kinds _ type = false

-- The fields of a struct are scalars.
abbrev pub is_bad_struct_field : Role → TypeTree → Bool
is_bad_struct_field StructField type = not (is_scalar type)
is_bad_struct_field _ type = false

-- The faults of one node at this place, in the order in which they count.
abbrev pub node_faults_at : Spot → Kinds → Role → TypeTree → List Finding
node_faults_at spot kinds role type =
    when (is_floating type) (found spot FloatingType)
    ++ (when (is_unknown kinds type) (found spot UnknownName)
    ++ (when (is_bad_key kinds role type) (found spot BadKeyType)
    ++ when (is_bad_struct_field role type) (found spot BadStructField)))

-- The faults of one node at its own place, in the order in which they count.
abbrev pub node_faults : Kinds → Role → TypeTree → List Finding
node_faults kinds role type = node_faults_at (type_place type) kinds role type

-- The faults of a type: those of its nodes from left to right, a node before the nodes inside it.
abbrev pub type_faults : Kinds → Role → TypeTree → List Finding
type_faults kinds role (leaf l spot) = node_faults kinds role (leaf l spot)
type_faults kinds role (held holding element spot) =
    node_faults kinds role (held holding element spot) ++ type_faults kinds Element element
type_faults kinds role (map key value spot) =
    node_faults kinds role (map key value spot)
    ++ (type_faults kinds Key key ++ type_faults kinds MapValue value)
