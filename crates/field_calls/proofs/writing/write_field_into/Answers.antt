use Rattle.std.proofs.Common.{rules}
use Rattle.field_calls.specs.Fields.{IsPrintedTable}
use Rattle.field_calls.proofs.TextLaws.{writes_by_text}
use Rattle.field_calls.proofs.writing.write_field_into.Goals as goal

pub returns : goal.returns
returns c =
    let printed : IsPrintedTable c.in_ok-table.table c.args.table.now = search rules in
    writes_by_text c.args.form c.in_ok-table.table c.args.table.now c.args.name.now c.args.text.now c.args.room.now c.write_field_under.new.room _ printed c.write_field_under.ensures
