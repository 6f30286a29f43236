use Rattle.std.proofs.Common.{◌∙◌}
use Rattle.byte_calls.specs.Spans.{inputs_of}
use Rattle.step_calls.proofs.UpdateLaws.{update_made, unwritten}
use Rattle.step_calls.proofs.updates.update_under.Goals as goal

pub returns-in_err-write_into : goal.returns-in_err-write_into
returns-in_err-write_into c =
    let inputs = inputs_of c.args.inputs.now in
    let nodes = c.args.table.now in
    let made = update_made c.args.form nodes inputs c.args.writes.now c.in_ok-lists.lists.items c.in_ok-context.ensures.0 c.in_ok-lists.ensures.read c.in_ok-context.ensures.1 in
    unwritten c.args.form c.args.budget nodes inputs c.args.writes.now c.args.room.now c.write_into.new.room c.in_ok-context.ensures.0 c.list.result.now c.in_err-write_into.field-0.0 _
    made (c.list.ensures.list ∙ c.in_ok-context.ensures.2) c.from_residual-in_err-write_into.ensures.1 c.in_err-write_into.ensures
