-- How the names and the numbers of fields are spelled.
use Rattle.std.specs.Prelude.{◌≡◌, ◌^◌, ◌<◌, true, List}
use Rattle.std.specs.List.{AllByRecursion}
use Rattle.bag_model.specs.Words.{is_name}
use Rattle.bdl_parser.specs.declared.trees.Decl.{Decl}
use Rattle.bdl_parser.specs.declared.trees.Decl.TheVariants.{Bag, Struct}
use Rattle.bdl_parser.specs.Trees.{BagFieldTree}

-- The field's name is a name, and its number has 16 bits.
abbrev pub IsSpelledField : BagFieldTree → Type 0
IsSpelledField field = (is_name field.name ≡ true) × (field.number < 2 ^ 16)

-- Each field of a declared bag has a name of the definition language and a number of 16 bits.
abbrev pub IsSpelledDecl : Decl → Type 0
IsSpelledDecl (Bag name spot fields) = AllByRecursion IsSpelledField fields
IsSpelledDecl (Struct name spot fields) = Unit {0}

-- Each field of each declared bag has a name of the definition language and a number of 16 bits.
abbrev pub AreSpelledDecls : List Decl → Type 0
AreSpelledDecls decls = AllByRecursion IsSpelledDecl decls
