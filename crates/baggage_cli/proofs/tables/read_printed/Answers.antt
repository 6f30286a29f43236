use Rattle.std.proofs.Common.{◌≡◌, ◌⊎◌, ℕ, ◌≤◌, List, Some, Err, length, sym, subst}
use Rattle.bdl_lexer.specs.declared.TheConstants.{SOURCE_MAX}
use Rattle.baggage_cli.specs.declared.refusals.Notice.TheVariants.{Memory}
use Rattle.baggage_cli.specs.declared.refusals.Refusal.TheVariants.{Plain}
use Rattle.baggage_cli.specs.Scene.{change}
use Rattle.baggage_cli.specs.Tables.{PrintedGives}
use Rattle.baggage_cli.proofs.Printed.{unbrought_table, obtains_printed, brought_short}
use Rattle.baggage_cli.proofs.tables.read_printed.Goals as goal

pub returns-in_err-text : goal.returns-in_err-text
returns-in_err-text g c =
    let library = change g.L.Library.files g.L.Library.faults c.args.library.now c.bring.new.library in
    let requests = change g.L.Library.asked g.L.Library.faults c.args.library.now c.bring.new.library in
    unbrought_table c.args.file.now library requests c.in_err-text.field-0.0 c.from_residual.result c.from_residual.ensures.1 c.in_err-text.ensures

pub table_in-requires : goal.table_in-requires
table_in-requires g c =
    let library = change g.L.Library.files g.L.Library.faults c.args.library.now c.bring.new.library in
    let requests = change g.L.Library.asked g.L.Library.faults c.args.library.now c.bring.new.library in
    let short = brought_short c.args.file.now library requests c.in_ok-text.text.items c.in_ok-text.ensures in
    subst (λ (text : List ℕ). length text ≤ SOURCE_MAX) (sym c.as_slice.ensures.value) short

pub returns : goal.returns
returns g c =
    let library = change g.L.Library.files g.L.Library.faults c.args.library.now c.bring.new.library in
    let requests = change g.L.Library.asked g.L.Library.faults c.args.library.now c.bring.new.library in
    let gives = subst (λ (text : List ℕ). (c.table_in.result ≡ Err (Plain Memory)) ⊎ PrintedGives c.args.file.now (Some text) c.table_in.result) c.as_slice.ensures.value c.table_in.ensures in
    obtains_printed c.args.file.now library requests c.in_ok-text.text.items c.table_in.result c.in_ok-text.ensures gives
