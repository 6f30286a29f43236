-- Worked rows: the first faults of some definitions, computed from the definition of all faults, and the links of one.
use Rattle.std.proofs.Common.{◌≡◌, ℕ, List, [], ◌∷◌, Option, Some, codes, refl}
use Rattle.bag_model.specs.declared.words.ScalarWord.TheVariants.{Bool as Boolean}
use Rattle.bdl_load.specs.declared.faults.DefCode.{DefCode}
use Rattle.bdl_load.specs.declared.faults.DefCode.TheVariants.{BadKeyType, DuplicateNumber}
use Rattle.bdl_check.specs.Checks.{placed_faults}
use Rattle.bdl_check.specs.Declarations.{Placed}
use Rattle.bdl_check.specs.Faults.{first}
use Rattle.bdl_load.specs.declared.faults.Fault.{Fault}
use Rattle.bdl_check.specs.Recursion.{links}
use Rattle.bdl_parser.specs.declared.trees.Decl.{Decl}
use Rattle.bdl_parser.specs.declared.trees.Decl.TheVariants.{Bag, Struct}
use Rattle.bdl_parser.specs.declared.trees.Holding.TheVariants.{AsSet, AsGreatest}
use Rattle.bdl_parser.specs.declared.trees.Spot.{Spot}
use Rattle.bdl_parser.specs.Trees.{BagFieldTree, TypeTree, scalar, counter, name, leaf, held, map as map_of}

abbrev at : ℕ → Spot
at column = record { line = 1; column = column }

abbrev in_f : Decl → Placed
in_f decl = record { file = codes "f"; decl = decl }

abbrev fault : ℕ → DefCode → Option Fault
fault column code = Some (record { file = codes "f"; line = 1; column = column; code = code })

-- A field of a bag: the columns of its type, its name and its number.
abbrev field : TypeTree → List ℕ → ℕ → ℕ → ℕ → BagFieldTree
field kind text name_column number number_column =
    record { kind = kind; name = text; name_at = at name_column; number = number; number_at = at number_column }

-- `bag B { set<set<bool>> s = 0; }`
nested_set : first (placed_faults (in_f (Bag (codes "B") (at 5)
    (field (held AsSet (held AsSet (leaf (scalar Boolean) (at 17)) (at 13)) (at 9)) (codes "s") 24 0 28 ∷ [])) ∷ [])) ≡ fault 13 BadKeyType
nested_set = refl

-- `bag G { greatest<counter> x = 0; }`
greatest_counter : first (placed_faults (in_f (Bag (codes "G") (at 5)
    (field (held AsGreatest (leaf counter (at 18)) (at 9)) (codes "x") 27 0 31 ∷ [])) ∷ [])) ≡ fault 18 BadKeyType
greatest_counter = refl

-- `bag In { bool a = 3; bool b = 3; }`
two_numbers : first (placed_faults (in_f (Bag (codes "In") (at 5)
    (field (leaf (scalar Boolean) (at 10)) (codes "a") 15 3 19 ∷ field (leaf (scalar Boolean) (at 22)) (codes "b") 27 3 31 ∷ [])) ∷ [])) ≡ fault 31
    DuplicateNumber
two_numbers = refl

-- `bag A { map<bool, B> b = 0; } bag B { set<S> s = 0; A a = 1; } struct S { bool x; }`
three_links : links (in_f (Bag (codes "A") (at 5) (field (map_of (leaf (scalar Boolean) (at 13)) (leaf (name (codes "B")) (at 19)) (at 9))
    (codes "b") 22 0 26 ∷ []))
    ∷ in_f (Bag (codes "B") (at 35) (field (held AsSet (leaf (name (codes "S")) (at 43)) (at 39)) (codes "s") 46 0 50 ∷ field
    (leaf (name (codes "A")) (at 53)) (codes "a") 55 1 59 ∷ []))
    ∷ in_f (Struct (codes "S") (at 71) (record { kind = leaf (scalar Boolean) (at 75); name = codes "x"; name_at = at 80 } ∷ [])) ∷ []) ≡ (1 ∷ []) ∷
    (2 ∷ 0 ∷ []) ∷ [] ∷ []
three_links = refl
