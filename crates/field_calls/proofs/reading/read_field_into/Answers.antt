use Rattle.std.proofs.Common.{rules}
use Rattle.field_calls.specs.Fields.{IsPrintedTable}
use Rattle.field_calls.proofs.TextLaws.{reads_by_text}
use Rattle.field_calls.proofs.reading.read_field_into.Goals as goal

pub returns : goal.returns
returns c =
    let printed : IsPrintedTable c.in_ok-table.table c.args.table.now = search rules in
    reads_by_text c.in_ok-table.table c.args.table.now c.args.context.now c.args.name.now c.args.room.now c.read_field_under.new.room _ printed c.read_field_under.ensures
