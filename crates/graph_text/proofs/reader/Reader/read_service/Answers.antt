use Rattle.std.proofs.Common.{◌∙◌, ap}
use Rattle.field_table.specs.Views as tables
use Rattle.recorded_graph.specs.Graphs.{with_service}
use Rattle.graph_lines.specs.Acts.{named_view_of}
use Rattle.graph_text.proofs.Refusals.{declared}
use Rattle.graph_text.proofs.reader.Reader.read_service.Goals as goal

pub returns-clause-ok : goal.returns-clause-ok
returns-clause-ok c =
    let view = tables.plain_view_of c.in_ok-view.view in
    declared c.args.table.now c.args.self c.args.form c.args.name.now (named_view_of c.args.view.now) view c.in_ok-check_new.ensures.ok c.in_ok-view.ensures.paths c.in_ok-view.ensures.ok c.in_ok-reader.reader
    (c.in_ok-reader.ensures ∙ ap (λ name. with_service c.args.self (record { name = name; form = c.args.form; view = view })) c.in_ok-of.ensures.made)
