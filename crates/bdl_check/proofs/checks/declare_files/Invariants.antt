use Rattle.std.proofs.Common.{drop}
use Rattle.bdl_check.specs.Declarations.{all_placed}
use Rattle.bdl_check.proofs.NameLaws.{NamesLeft}
use Rattle.bdl_check.proofs.checks.declare_files.Given as goal

abbrev pub invariant-loop-file : goal.invariant-loop-file
invariant-loop-file l = NamesLeft l.declarations l.fn.declarations (all_placed (drop l.file-index l.files)) (all_placed l.files)
