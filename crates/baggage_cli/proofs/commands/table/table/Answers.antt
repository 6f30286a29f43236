use Rattle.table_text.specs.TableTexts.{table_text}
use Rattle.baggage_cli.specs.Outcomes.{Builds}
use Rattle.baggage_cli.specs.Scene.{change}
use Rattle.baggage_cli.specs.Tables.{compiled}
use Rattle.baggage_cli.proofs.Obtained.{unobtained}
use Rattle.baggage_cli.proofs.commands.table.table.Goals as goal

pub returns-in_err-table : goal.returns-in_err-table
returns-in_err-table g c =
    let library = change g.L.Library.files g.L.Library.faults c.args.library.now c.obtain.new.library in
    let requests = change g.L.Library.asked g.L.Library.faults c.args.library.now c.obtain.new.library in
    unobtained (Unit {0}) (λ table. Builds (table_text table)) (compiled c.args.file.now c.args.bag.now) library requests c.in_err-table.field-0.0 c.from_residual.result c.from_residual.ensures.1 c.in_err-table.ensures tt
