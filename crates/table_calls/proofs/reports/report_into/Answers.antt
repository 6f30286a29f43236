use Rattle.table_calls.proofs.TextLaws.{reports_by_text}
use Rattle.table_calls.proofs.reports.report_into.Goals as goal

pub returns : goal.returns
returns c =
    reports_by_text c.args.report c.in_ok-table.table c.args.table.now c.args.context.now c.args.room.now c.report_under.new.room _ c.in_ok-table.ensures.read c.report_under.ensures
