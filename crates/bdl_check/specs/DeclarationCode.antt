-- A code of declarations, by which a proof tells lists of them apart. It says nothing of a
-- definition.
use Rattle.std.specs.Prelude.{ℕ, List}
use Rattle.std.specs.Coded.{Coded, code_by, coded×, coded_ℕ, coded_list}
use Rattle.std.proofs.Common.{refl}
use Rattle.bdl_check.specs.Declarations.{Placed}
use Rattle.bdl_parser.specs.declared.trees.Decl.{Decl}
use Rattle.bdl_parser.specs.DeclCode.{decl_code}

-- The code of a declaration with the name of its file.
abbrev pub placed_code : Coded Placed
placed_code =
    code_by (List ℕ × Decl) (coded× (coded_list coded_ℕ) decl_code) (λ d. (d.file, d.decl))
    (λ p. record { file = p.0; decl = p.1 }) (λ _. refl)

-- The code of declarations with the names of their files.
abbrev pub placed_list_code : Coded (List Placed)
placed_list_code = coded_list placed_code
