-- The code of declarations.
use Rattle.std.specs.Prelude.{◌≡◌, ℕ, List, ◌⊎◌}
use Rattle.std.specs.Coded.{Coded, code_by, coded×, coded⊎, coded_list}
use Rattle.std.proofs.Common.{refl, inl, inr}
use Rattle.bdl_parser.specs.declared.trees.Decl.{Decl}
use Rattle.bdl_parser.specs.declared.trees.Decl.TheVariants.{Bag, Struct}
use Rattle.bdl_parser.specs.declared.trees.Spot.{Spot}
use Rattle.bdl_parser.specs.TreeCode.{spot_code, name_code, bag_fields_code, struct_fields_code}
use Rattle.bdl_parser.specs.Trees.{BagFieldTree, StructFieldTree}

-- The parts of a bag, or those of a struct.
abbrev pub DeclParts : Type 0
DeclParts = (List ℕ × (Spot × List BagFieldTree)) ⊎ (List ℕ × (Spot × List StructFieldTree))

-- The name, the place and the fields of a declaration.
abbrev pub decl_parts : Decl → DeclParts
decl_parts (Bag name spot fields) = inl (name, (spot, fields))
decl_parts (Struct name spot fields) = inr (name, (spot, fields))

-- The declaration that has these parts.
abbrev pub decl_back : DeclParts → Decl
decl_back (inl p) = Bag p.0 p.1.0 p.1.1
decl_back (inr p) = Struct p.0 p.1.0 p.1.1

-- A declaration comes back from its parts.
pub decl_undone : (decl : Decl) → decl_back (decl_parts decl) ≡ decl
decl_undone (Bag name spot fields) = refl
decl_undone (Struct name spot fields) = refl

-- The code of declarations, by their parts.
abbrev pub decl_code : Coded Decl
decl_code =
    code_by DeclParts (coded⊎ (coded× name_code (coded× spot_code bag_fields_code))
    (coded× name_code (coded× spot_code struct_fields_code))) decl_parts decl_back decl_undone

-- The code of lists of declarations.
abbrev pub decls_code : Coded (List Decl)
decls_code = coded_list decl_code
