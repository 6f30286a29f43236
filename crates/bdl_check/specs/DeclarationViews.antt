-- The declarations of the code as plain ones, and their numbers by name.
use Rattle.std.specs.Prelude.{◌≡◌, ℕ, List}
use Rattle.std.specs.Borrow.{Bor}
use Rattle.std.specs.BTreeMap.{BTreeMap, get_by}
use Rattle.std.specs.Cmp.Lexicographic.{slice_cmp}
use Rattle.std.specs.Ordering.{nat_cmp}
use Rattle.bdl_check.specs.declared.declarations.Declaration.{Declaration}
use Rattle.bdl_check.specs.Declarations.{Placed, number_named}

-- A declaration in its file.
abbrev pub placed_of : Declaration → Placed
placed_of d = record { file = d.file.now; decl = d.decl.now }

-- The map has the number of each declaration by its name, and no other name.
abbrev pub NumbersDeclarations : List Placed → BTreeMap (Bor (List ℕ)) ℕ → Type 0
NumbersDeclarations ds numbers =
    (name : List ℕ) → get_by (λ key. slice_cmp nat_cmp name key.now) numbers ≡ number_named ds name
