use Rattle.std.proofs.Common.{◌≡◌, List, subst, sym}
use Rattle.bdl_check.specs.Compiler.{IsTableIn, IsFaultIn, IsTableOf}
use Rattle.bdl_load.specs.Loading.{Holding}
use Rattle.bdl_check.specs.Faults.{RefusesFor}
use Rattle.bdl_load.specs.Faults.{IsAnswerOf}
use Rattle.bdl_load.specs.declared.faults.DefFault.{DefFault}
use Rattle.bdl_load.specs.declared.files.LoadedFile.{LoadedFile}
use Rattle.bdl_check.proofs.Compiling.{exit_err, exit_any, exit_same, BlamesFirst, table_of_files, blames_loading, blames_files, told_files, told_exit}
use Rattle.bdl_check.proofs.compiler.compile.Goals as goal

pub returns-in_err-files-clause-fault : goal.returns-in_err-files-clause-fault
returns-in_err-files-clause-fault g c =
    let files = g.L.Library.files c.args.library.now in
    let before = g.L.Library.asked c.args.library.now in
    let after = g.L.Library.asked c.load.new.library in
    let root = c.args.file.now in
    let name = c.args.bag.now in
    let fault = c.in_err-files.field-0.0 in
    exit_err {E = DefFault} (λ (answer : DefFault). answer ≡ fault) (BlamesFirst files before after root name) c.from_residual.result
    (λ (answer : DefFault) is. subst (BlamesFirst files before after root name) (sym is)
    (blames_loading files before after root name fault c.in_err-files.ensures.fault))
    c.from_residual.ensures.1

pub returns-in_err-files-clause-told_fault : goal.returns-in_err-files-clause-told_fault
returns-in_err-files-clause-told_fault g c =
    told_exit (g.L.Library.files c.args.library.now) (g.L.Library.asked c.args.library.now) (g.L.Library.asked c.load.new.library) c.args.file.now
    c.args.bag.now
    c.from_residual.result (returns-in_err-files-clause-fault g c)

pub returns-in_err-table_in-clause-fault : goal.returns-in_err-table_in-clause-fault
returns-in_err-table_in-clause-fault g c =
    let files = g.L.Library.files c.args.library.now in
    let before = g.L.Library.asked c.args.library.now in
    let after = g.L.Library.asked c.load.new.library in
    let root = c.args.file.now in
    let name = c.args.bag.now in
    let refusal = c.in_err-table_in.field-0.0 in
    let says = subst (λ (those : List LoadedFile). RefusesFor (IsFaultIn those root name) refusal) c.deref.ensures.value
    c.in_err-table_in.ensures.fault in
    exit_err {E = DefFault} (IsAnswerOf refusal) (BlamesFirst files before after root name) c.from_residual-in_err-table_in.result
    (λ (answer : DefFault) is. blames_files files before after root name c.in_ok-files.files.items c.in_ok-files.ensures.loaded refusal answer says
    is)
    c.from_residual-in_err-table_in.ensures.1

pub returns-in_err-table_in-clause-told_fault : goal.returns-in_err-table_in-clause-told_fault
returns-in_err-table_in-clause-told_fault g c =
    told_exit (g.L.Library.files c.args.library.now) (g.L.Library.asked c.args.library.now) (g.L.Library.asked c.load.new.library) c.args.file.now
    c.args.bag.now
    c.from_residual-in_err-table_in.result (returns-in_err-table_in-clause-fault g c)

pub returns-clause-table : goal.returns-clause-table
returns-clause-table g c =
    let files = g.L.Library.files c.args.library.now in
    let before = g.L.Library.asked c.args.library.now in
    let after = g.L.Library.asked c.load.new.library in
    let name = c.args.bag.now in
    let table = subst (λ (those : List LoadedFile). IsTableIn those name c.in_ok-table_in.field-0) c.deref.ensures.value
    c.in_ok-table_in.ensures.table in
    table_of_files files before after c.args.file.now name c.in_ok-files.files.items c.in_ok-table_in.field-0 c.in_ok-files.ensures.loaded table

pub returns-clause-told_table : goal.returns-clause-told_table
returns-clause-told_table g c =
    let Holds : Holding → Type 0 = λ held. IsTableOf held c.args.file.now c.args.bag.now c.in_ok-table_in.field-0 in
    told_files (g.L.Library.files c.args.library.now) (g.L.Library.asked c.args.library.now) (g.L.Library.asked c.load.new.library) c.args.file.now
    Holds (returns-clause-table g c)

pub returns-in_err-files-clause-blamed : goal.returns-in_err-files-clause-blamed
returns-in_err-files-clause-blamed g c = exit_same _ _ c.in_err-files.field-0.0 c.from_residual.ensures.1 c.in_err-files.ensures.blamed

pub returns-in_err-table_in-clause-blamed : goal.returns-in_err-table_in-clause-blamed
returns-in_err-table_in-clause-blamed g c = exit_any _ c.from_residual-in_err-table_in.result c.in_ok-files.ensures.steady
