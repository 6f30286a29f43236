-- The faults of a declaration's fields.
use Rattle.std.specs.Prelude.{ℕ, Bool, ◌==◌, List, [], ◌∷◌, ◌++◌, map}
use Rattle.std.specs.List.{list_any}
use Rattle.std.specs.Str.{bytes_eq}
use Rattle.bdl_load.specs.declared.faults.DefCode.TheVariants.{EmptyStruct, DuplicateNumber, DuplicateField}
use Rattle.bdl_load.specs.declared.faults.Finding.{Finding}
use Rattle.bdl_check.specs.declared.types.Role.TheVariants.{BagField, StructField}
use Rattle.bdl_check.specs.Faults.{when}
use Rattle.bdl_load.specs.Faults.{found}
use Rattle.bdl_check.specs.Types.{Kinds, type_faults}
use Rattle.bdl_parser.specs.declared.trees.Decl.{Decl}
use Rattle.bdl_parser.specs.declared.trees.Decl.TheVariants.{Bag, Struct}
use Rattle.bdl_parser.specs.Trees.{BagFieldTree, StructFieldTree}

-- One of these is the number.
abbrev pub is_number_among : ℕ → List ℕ → Bool
is_number_among number numbers = list_any (λ other. other == number) numbers

-- One of these is the name.
abbrev pub is_name_among : List ℕ → List (List ℕ) → Bool
is_name_among text names = list_any (λ other. bytes_eq other text) names

-- The numbers of a bag's fields, in their order.
abbrev pub numbers_of : List BagFieldTree → List ℕ
numbers_of fields = map (λ field. field.number) fields

-- The names of a bag's fields, in their order.
abbrev pub bag_field_names : List BagFieldTree → List (List ℕ)
bag_field_names fields = map (λ field. field.name) fields

-- The names of a struct's fields, in their order.
abbrev pub struct_names_of : List StructFieldTree → List (List ℕ)
struct_names_of fields = map (λ field. field.name) fields

-- The faults of a bag's field after the earlier ones: its type's, its number's and its name's.
abbrev pub bag_field_faults : Kinds → List BagFieldTree → BagFieldTree → List Finding
bag_field_faults kinds earlier field =
    type_faults kinds BagField field.kind
    ++ (when (is_number_among field.number (numbers_of earlier))
    (found field.number_at DuplicateNumber)
    ++ when (is_name_among field.name (bag_field_names earlier))
    (found field.name_at DuplicateField))

-- The faults of each field of a bag after those before it.
abbrev pub bag_faults : Kinds → List BagFieldTree → List BagFieldTree → List Finding
bag_faults kinds earlier [] = []
bag_faults kinds earlier (field ∷ fields) =
    bag_field_faults kinds earlier field ++ bag_faults kinds (earlier ++ field ∷ []) fields

-- The faults of a struct's field after the earlier ones: its type's and its name's.
abbrev pub struct_field_faults : Kinds → List StructFieldTree → StructFieldTree → List Finding
struct_field_faults kinds earlier field =
    type_faults kinds StructField field.kind
    ++ when (is_name_among field.name (struct_names_of earlier))
    (found field.name_at DuplicateField)

-- The faults of each field of a struct after those before it.
abbrev pub struct_faults : Kinds → List StructFieldTree → List StructFieldTree → List Finding
struct_faults kinds earlier [] = []
struct_faults kinds earlier (field ∷ fields) =
    struct_field_faults kinds earlier field ++ struct_faults kinds (earlier ++ field ∷ []) fields

-- A declaration's own faults and those of its fields.
abbrev pub decl_faults : Kinds → Decl → List Finding
decl_faults kinds (Bag name spot fields) = bag_faults kinds [] fields
decl_faults kinds (Struct name spot []) = found spot EmptyStruct ∷ []
decl_faults kinds (Struct name spot (field ∷ fields)) = struct_faults kinds [] (field ∷ fields)
