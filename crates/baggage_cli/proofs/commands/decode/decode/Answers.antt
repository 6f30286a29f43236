use Rattle.std.proofs.Common.{refl}
use Rattle.baggage_cli.specs.Decode.{DecodesLines}
use Rattle.baggage_cli.specs.Outcomes.{outcome_of}
use Rattle.baggage_cli.specs.Scene.{change}
use Rattle.baggage_cli.specs.Tables.{compiled}
use Rattle.baggage_cli.proofs.TakenFirst.{no_table, no_input, lines_gave}
use Rattle.baggage_cli.proofs.commands.decode.decode.Goals as goal

pub returns-in_err-table : goal.returns-in_err-table
returns-in_err-table g c =
    let library = change g.L.Library.files g.L.Library.faults c.args.library.now c.obtain.new.library in
    let requests = change g.L.Library.asked g.L.Library.faults c.args.library.now c.obtain.new.library in
    let source = change g.S.Source.left g.S.Source.faults c.args.source.now c.args.source.now in
    no_table (compiled c.args.file.now c.args.bag.now) DecodesLines library requests source c.in_err-table.field-0.0 c.from_residual.result c.from_residual.ensures.1 c.in_err-table.ensures (refl, refl)

pub returns-in_err-input : goal.returns-in_err-input
returns-in_err-input g c =
    let library = change g.L.Library.files g.L.Library.faults c.args.library.now c.obtain.new.library in
    let requests = change g.L.Library.asked g.L.Library.faults c.args.library.now c.obtain.new.library in
    let source = change g.S.Source.left g.S.Source.faults c.args.source.now c.read_input.new.source in
    no_input (compiled c.args.file.now c.args.bag.now) DecodesLines library requests source c.in_ok-table.table c.in_err-input.field-0.0 c.from_residual-in_err-input.result c.from_residual-in_err-input.ensures.1 c.in_ok-table.ensures c.in_err-input.ensures

pub returns : goal.returns
returns g c =
    let library = change g.L.Library.files g.L.Library.faults c.args.library.now c.obtain.new.library in
    let requests = change g.L.Library.asked g.L.Library.faults c.args.library.now c.obtain.new.library in
    let source = change g.S.Source.left g.S.Source.faults c.args.source.now c.read_input.new.source in
    lines_gave (compiled c.args.file.now c.args.bag.now) DecodesLines library requests source c.in_ok-table.table c.in_ok-input.input _ (outcome_of c.decoded_block.result) c.in_ok-table.ensures c.in_ok-input.ensures c.as_slice.ensures.value
    c.decoded_block.ensures
