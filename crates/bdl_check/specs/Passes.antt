-- Declarations that pass, said apart from the places and the order of faults.
use Rattle.std.specs.Prelude.{Bool, true, false, not, ◌&&◌, ◌==◌, List, [], ◌∷◌, Option, None, Some, map}
use Rattle.std.specs.List.{list_any, list_all}
use Rattle.std.specs.Str.{bytes_eq}
use Rattle.bdl_check.specs.declared.declarations.DeclKind.{DeclKind}
use Rattle.bdl_check.specs.declared.declarations.DeclKind.TheVariants.{Bag as IsBag, Struct as IsStruct}
use Rattle.bdl_check.specs.declared.types.Role.{Role}
use Rattle.bdl_check.specs.declared.types.Role.TheVariants.{BagField, StructField, Element, Key, MapValue}
use Rattle.bdl_check.specs.Declarations.{Placed, decl_name, kind_named}
use Rattle.bdl_check.specs.Fields.{numbers_of, bag_field_names, struct_names_of}
use Rattle.bdl_check.specs.Types.{Kinds}
use Rattle.bdl_parser.specs.declared.trees.Decl.{Decl}
use Rattle.bdl_parser.specs.declared.trees.Decl.TheVariants.{Bag, Struct}
use Rattle.bdl_parser.specs.Trees.{Leaf, TypeTree, scalar, float, double, taint, counter, name, leaf, held, map as map_of}

-- No two of a list are alike.
abbrev pub are_distinct : {A : Type 0} → (A → A → Bool) → List A → Bool
are_distinct alike [] = true
are_distinct alike (x ∷ xs) = not (list_any (alike x) xs) && are_distinct alike xs

-- Any type may be the whole type of a bag's field and the value of a map.
abbrev pub takes_any_type : Role → Bool
takes_any_type BagField = true
takes_any_type StructField = false
takes_any_type Element = false
takes_any_type Key = false
takes_any_type MapValue = true

-- A struct's name may stand for the elements of a set and of a greatest too.
abbrev pub may_name : Role → DeclKind → Bool
may_name Element IsStruct = true
may_name Element IsBag = false
may_name BagField kind = true
may_name StructField kind = false
may_name Key kind = false
may_name MapValue kind = true

-- A name that some declaration has.
abbrev pub passes_name : Role → Option DeclKind → Bool
passes_name role None = false
passes_name role (Some kind) = may_name role kind

-- Scalars are allowed everywhere, and floating types nowhere.
abbrev pub passes_leaf : Kinds → Role → Leaf → Bool
passes_leaf kinds role (scalar word) = true
passes_leaf kinds role float = false
passes_leaf kinds role double = false
passes_leaf kinds role taint = takes_any_type role
passes_leaf kinds role counter = takes_any_type role
passes_leaf kinds role (name text) = passes_name role (kinds text)

-- A type passes where each of its nodes is allowed where it is.
abbrev pub passes_type : Kinds → Role → TypeTree → Bool
passes_type kinds role (leaf l spot) = passes_leaf kinds role l
passes_type kinds role (held holding element spot) =
    takes_any_type role && passes_type kinds Element element
passes_type kinds role (map_of key value spot) =
    takes_any_type role && (passes_type kinds Key key && passes_type kinds MapValue value)

-- A bag's fields have types that pass, distinct numbers and distinct names; a struct has fields,
-- with types that pass
-- and distinct names.
abbrev pub passes_decl : Kinds → Decl → Bool
passes_decl kinds (Bag called spot fields) =
    list_all (λ field. passes_type kinds BagField field.kind) fields
    && (are_distinct (λ a b. a == b) (numbers_of fields) && are_distinct bytes_eq
    (bag_field_names fields))
passes_decl kinds (Struct called spot []) = false
passes_decl kinds (Struct called spot (field ∷ fields)) =
    list_all (λ f. passes_type kinds StructField f.kind) (field ∷ fields)
    && are_distinct bytes_eq (struct_names_of (field ∷ fields))

-- The names of all declarations are distinct, and each declaration passes.
abbrev pub pass : List Placed → Bool
pass ds =
    are_distinct bytes_eq (map (λ d. decl_name d.decl) ds)
    && list_all (λ d. passes_decl (kind_named ds) d.decl) ds
