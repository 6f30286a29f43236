use Rattle.std.proofs.Common.{◌+◌, drop, ap, sym, ◌∙◌, Ok}
use Rattle.bdl_check.specs.Declarations.{placed_in, all_placed}
use Rattle.bdl_check.proofs.NameLaws.{names_more, names_found, files_left}
use Rattle.bdl_check.proofs.checks.declare_files.Goals as goal

pub returns-in-Some-clause-found : goal.returns-in-Some-clause-found
returns-in-Some-clause-found c =
    names_found c.loop-file.declarations c.args.declarations.now (placed_in c.file-item.result)
    (all_placed (drop c.loop-file.file-index c.args.files.now))
    (all_placed (drop (c.loop-file.file-index + 1) c.args.files.now)) (all_placed c.args.files.now) c.in-Some.fault
    (files_left c.args.files.now c.loop-file.file-index c.file-item.result c.loop-file-test.true c.file-item.is) c.loop-file.invariant
    (sym c.in-Some.is ∙ c.in_ok-fault.ensures.found)

pub loop-file-preserved : goal.loop-file-preserved
loop-file-preserved c =
    names_more c.loop-file.declarations c.declare_file.new.declarations c.args.declarations.now (placed_in c.file-item.result)
    (all_placed (drop c.loop-file.file-index c.args.files.now))
    (all_placed (drop (c.loop-file.file-index + 1) c.args.files.now)) (all_placed c.args.files.now)
    (files_left c.args.files.now c.loop-file.file-index c.file-item.result c.loop-file-test.true c.file-item.is) c.loop-file.invariant
    (sym c.in_default.is ∙ c.in_ok-fault.ensures.found)
    (c.in_ok-fault.ensures.declared (ap Ok c.in_default.is))
