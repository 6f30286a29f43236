use Rattle.std.proofs.Common.{rules}
use Rattle.byte_calls.specs.Spans.{inputs_of}
use Rattle.field_calls.specs.Fields.{IsPrintedTable}
use Rattle.step_calls.proofs.UpdateLaws.{updates_by_text}
use Rattle.step_calls.proofs.updates.update_into.Goals as goal

pub returns : goal.returns
returns c =
    let printed : IsPrintedTable c.in_ok-table.table c.args.table.now = search rules in
    updates_by_text c.args.form c.args.budget c.in_ok-table.table c.args.table.now (inputs_of c.args.inputs.now) c.args.writes.now c.args.room.now c.update_under.new.room _ printed c.update_under.ensures
