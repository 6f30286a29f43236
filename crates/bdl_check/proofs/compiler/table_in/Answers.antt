use Rattle.std.proofs.Common.{List, sym, subst}
use Rattle.std.proofs.lemmas.Result.{IfErr-weaker}
use Rattle.bdl_check.specs.Declarations.{Placed, AreSpelled}
use Rattle.bdl_check.specs.Compiler.{IsFaultIn}
use Rattle.bdl_check.specs.Faults.{RefusesFor}
use Rattle.bdl_check.specs.Tables.{IsUntabled}
use Rattle.bdl_check.proofs.Compiling.{all_spelled, sound_files, untabled_files}
use Rattle.bdl_check.proofs.compiler.table_in.Goals as goal

pub table_of-requires-clause-spelled : goal.table_of-requires-clause-spelled
table_of-requires-clause-spelled c =
    subst (λ (ds : List Placed). AreSpelled ds) (sym c.in_ok-declarations.ensures.all) (all_spelled c.args.files.now c.requires)

pub returns-clause-fault : goal.returns-clause-fault
returns-clause-fault c =
    let files = c.args.files.now in
    let ds = c.in_ok-declarations.declarations in
    let sound = sound_files files ds c.in_ok-order.order.items c.orders_exclude_cycles.ensures c.in_ok-declarations.ensures.all
    c.in_ok-declarations.ensures.none c.in_ok-order.ensures.order in
    IfErr-weaker c.table_of.result (RefusesFor (IsUntabled ds c.args.root.now c.args.bag.now))
    (RefusesFor (IsFaultIn files c.args.root.now c.args.bag.now))
    (untabled_files files ds c.args.root.now c.args.bag.now sound c.in_ok-declarations.ensures.all) c.table_of.ensures.fault
