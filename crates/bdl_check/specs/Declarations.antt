-- The declarations of all files, by number and by name.
use Rattle.std.specs.Prelude.{ℕ, List, Option, map, find, position, All}
use Rattle.std.specs.List.{flat_map}
use Rattle.std.specs.Str.{bytes_eq}
use Rattle.std.specs.Option.{option_map}
use Rattle.bdl_check.specs.declared.declarations.DeclKind.{DeclKind}
use Rattle.bdl_check.specs.declared.declarations.DeclKind.TheVariants.{Bag as IsBag, Struct as IsStruct}
use Rattle.bdl_load.specs.declared.files.LoadedFile.{LoadedFile}
use Rattle.bdl_parser.specs.Decls.{IsSpelledDecl}
use Rattle.bdl_parser.specs.declared.trees.Decl.{Decl}
use Rattle.bdl_parser.specs.declared.trees.Decl.TheVariants.{Bag, Struct}
use Rattle.bdl_parser.specs.declared.trees.Spot.{Spot}

-- A declaration's name.
abbrev pub decl_name : Decl → List ℕ
decl_name (Bag name spot fields) = name
decl_name (Struct name spot fields) = name

-- The place of its name.
abbrev pub decl_place : Decl → Spot
decl_place (Bag name spot fields) = spot
decl_place (Struct name spot fields) = spot

-- Whether a declaration is of a bag or of a struct.
abbrev pub decl_kind : Decl → DeclKind
decl_kind (Bag name spot fields) = IsBag
decl_kind (Struct name spot fields) = IsStruct

-- A declaration, and the name of its file.
pub record Placed : Type 0 where
  pub file : List ℕ
  pub decl : Decl

-- The declaration in the file of this name.
abbrev pub placed : List ℕ → Decl → Placed
placed file decl = record { file = file; decl = decl }

-- The declarations of a file.
abbrev pub placed_in : LoadedFile → List Placed
placed_in file = map (placed file.name) file.module.decls

-- The declarations of all files, in the order of the files.
abbrev pub all_placed : List LoadedFile → List Placed
all_placed files = flat_map placed_in files

-- The first declaration of this name.
abbrev pub decl_named : List Placed → List ℕ → Option Placed
decl_named ds text = find (λ d. bytes_eq (decl_name d.decl) text) ds

-- The number of the first declaration of this name, from 0 on.
abbrev pub number_named : List Placed → List ℕ → Option ℕ
number_named ds text = position (λ d. bytes_eq (decl_name d.decl) text) ds

-- Whether the first declaration of this name is of a bag or of a struct.
abbrev pub kind_named : List Placed → List ℕ → Option DeclKind
kind_named ds text = option_map (λ d. decl_kind d.decl) (decl_named ds text)

-- The names and the numbers of all fields are spelled as those of a table.
abbrev pub AreSpelled : List Placed → Type 0
AreSpelled ds = All (λ d. IsSpelledDecl d.decl) ds
