use Rattle.std.proofs.Common.{◌≡◌, drop, map}
use Rattle.bdl_check.specs.Checks.{declaration_faults}
use Rattle.bdl_check.specs.Declarations.{kind_named}
use Rattle.bdl_check.specs.DeclarationViews.{placed_of}
use Rattle.bdl_check.specs.Faults.{first}
use Rattle.bdl_check.proofs.checks.declared_fault.Given as goal

abbrev pub invariant-loop-declaration : goal.invariant-loop-declaration
invariant-loop-declaration l =
    first (declaration_faults (kind_named l.declarations) (map placed_of (drop l.declaration-index l.declaration-items)))
    ≡ first (declaration_faults (kind_named l.declarations) l.declarations)
