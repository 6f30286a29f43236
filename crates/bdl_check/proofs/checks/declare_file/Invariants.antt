use Rattle.std.proofs.Common.{drop, map}
use Rattle.bdl_check.specs.Declarations.{placed, placed_in}
use Rattle.bdl_check.proofs.NameLaws.{NamesLeft}
use Rattle.bdl_check.proofs.checks.declare_file.Given as goal

abbrev pub invariant-loop-decl : goal.invariant-loop-decl
invariant-loop-decl l = NamesLeft l.declarations l.fn.declarations (map (placed l.file.name) (drop l.decl-index l.decl-items)) (placed_in l.file)
