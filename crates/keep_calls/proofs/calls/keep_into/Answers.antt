use Rattle.std.proofs.Common.{rules}
use Rattle.byte_calls.specs.Spans.{inputs_of}
use Rattle.field_calls.specs.Fields.{IsPrintedTable}
use Rattle.keep_calls.proofs.TextLaws.{keeps_by_text}
use Rattle.keep_calls.proofs.calls.keep_into.Goals as goal

pub returns : goal.returns
returns c =
    let printed : IsPrintedTable c.in_ok-table.table c.args.table.now = search rules in
    keeps_by_text c.args.form c.args.others c.args.budget c.in_ok-table.table c.args.table.now (inputs_of c.args.inputs.now) c.args.room.now c.keep_under.new.room _ printed c.keep_under.ensures
