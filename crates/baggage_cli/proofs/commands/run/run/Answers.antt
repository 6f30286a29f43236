use Rattle.std.proofs.Common.{◌≡◌, inl, inr, Ok, refl, ℕ, ◌<◌, length, sym, subst}
use Rattle.trace_model.specs.Graphs.{IsTypedContext}
use Rattle.trace_model.specs.Runs.{Lists, list_at}
use Rattle.baggage_cli.specs.Outcomes.{outcome_of}
use Rattle.baggage_cli.specs.Run.{report_form_of, IsReportAs, IsRunReport, RunsLines}
use Rattle.baggage_cli.specs.Scene.{change}
use Rattle.baggage_cli.specs.Tables.{origin_of}
use Rattle.baggage_cli.proofs.Compared.{memory_came}
use Rattle.baggage_cli.proofs.GraphInputs.{refused_text, graph_gave}
use Rattle.baggage_cli.proofs.TakenFirst.{no_table, no_input, lines_gave}
use Rattle.baggage_cli.proofs.commands.run.run.Goals as goal

pub returns-in_err-table : goal.returns-in_err-table
returns-in_err-table g c =
    let library = change g.L.Library.files g.L.Library.faults c.args.library.now c.obtain.new.library in
    let requests = change g.L.Library.asked g.L.Library.faults c.args.library.now c.obtain.new.library in
    let source = change g.S.Source.left g.S.Source.faults c.args.source.now c.args.source.now in
    no_table (origin_of c.args.origin) (RunsLines (report_form_of c.args.form)) library requests source c.in_err-table.field-0.0 c.from_residual.result c.from_residual.ensures.1 c.in_err-table.ensures (refl, refl)

pub returns-in_err-input : goal.returns-in_err-input
returns-in_err-input g c =
    let library = change g.L.Library.files g.L.Library.faults c.args.library.now c.obtain.new.library in
    let requests = change g.L.Library.asked g.L.Library.faults c.args.library.now c.obtain.new.library in
    let source = change g.S.Source.left g.S.Source.faults c.args.source.now c.read_input.new.source in
    no_input (origin_of c.args.origin) (RunsLines (report_form_of c.args.form)) library requests source c.in_ok-table.table c.in_err-input.field-0.0 c.from_residual-in_err-input.result c.from_residual-in_err-input.ensures.1 c.in_ok-table.ensures c.in_err-input.ensures

pub returns-in_err-graph : goal.returns-in_err-graph
returns-in_err-graph g c =
    let library = change g.L.Library.files g.L.Library.faults c.args.library.now c.obtain.new.library in
    let requests = change g.L.Library.asked g.L.Library.faults c.args.library.now c.obtain.new.library in
    let source = change g.S.Source.left g.S.Source.faults c.args.source.now c.read_input.new.source in
    lines_gave (origin_of c.args.origin) (RunsLines (report_form_of c.args.form)) library requests source c.in_ok-table.table c.in_ok-input.input _ (outcome_of c.from_residual-in_err-graph.result) c.in_ok-table.ensures c.in_ok-input.ensures c.as_slice.ensures.value
    (refused_text (IsRunReport (report_form_of c.args.form) c.in_ok-table.table) c.in_ok-table.table _ c.from_residual-in_err-graph.result c.in_err-graph.field-0.0 c.from_residual-in_err-graph.ensures.1 c.in_err-graph.ensures.fault)

pub returns-in_err-lists : goal.returns-in_err-lists
returns-in_err-lists g c =
    let library = change g.L.Library.files g.L.Library.faults c.args.library.now c.obtain.new.library in
    let requests = change g.L.Library.asked g.L.Library.faults c.args.library.now c.obtain.new.library in
    let source = change g.S.Source.left g.S.Source.faults c.args.source.now c.read_input.new.source in
    lines_gave (origin_of c.args.origin) (RunsLines (report_form_of c.args.form)) library requests source c.in_ok-table.table c.in_ok-input.input _ (outcome_of c.from_residual-in_err-lists.result) c.in_ok-table.ensures c.in_ok-input.ensures c.as_slice.ensures.value
    (inl (memory_came c.from_residual-in_err-lists.result c.from_residual-in_err-lists.ensures.1))

pub report_as-requires-clause-as_many : goal.report_as-requires-clause-as_many
report_as-requires-clause-as_many g c =
    subst (λ (lists : Lists). length lists ≡ length c.in_ok-graph.graph.steps) (sym c.as_slice-2.ensures.value) c.in_ok-lists.ensures.run.as_many

pub report_as-requires-clause-typed : goal.report_as-requires-clause-typed
report_as-requires-clause-typed g c =
    subst (λ (lists : Lists). (n : ℕ) → n < length lists → IsTypedContext c.in_ok-table.table (list_at lists n)) (sym c.as_slice-2.ensures.value) c.in_ok-lists.ensures.typed

pub returns-in_err-report_as : goal.returns-in_err-report_as
returns-in_err-report_as g c =
    let library = change g.L.Library.files g.L.Library.faults c.args.library.now c.obtain.new.library in
    let requests = change g.L.Library.asked g.L.Library.faults c.args.library.now c.obtain.new.library in
    let source = change g.S.Source.left g.S.Source.faults c.args.source.now c.read_input.new.source in
    lines_gave (origin_of c.args.origin) (RunsLines (report_form_of c.args.form)) library requests source c.in_ok-table.table c.in_ok-input.input _ (outcome_of c.from_residual-in_err-report_as.result) c.in_ok-table.ensures c.in_ok-input.ensures c.as_slice.ensures.value
    (inl (memory_came c.from_residual-in_err-report_as.result c.from_residual-in_err-report_as.ensures.1))

pub returns : goal.returns
returns g c =
    let form = report_form_of c.args.form in
    let table = c.in_ok-table.table in
    let graph = c.in_ok-graph.graph in
    let text = c.in_ok-report_as.field-0.items in
    let says = subst (λ (lists : Lists). IsReportAs form table graph lists text) c.as_slice-2.ensures.value c.in_ok-report_as.ensures in
    let library = change g.L.Library.files g.L.Library.faults c.args.library.now c.obtain.new.library in
    let requests = change g.L.Library.asked g.L.Library.faults c.args.library.now c.obtain.new.library in
    let source = change g.S.Source.left g.S.Source.faults c.args.source.now c.read_input.new.source in
    lines_gave (origin_of c.args.origin) (RunsLines (report_form_of c.args.form)) library requests source c.in_ok-table.table c.in_ok-input.input _ (Ok text) c.in_ok-table.ensures c.in_ok-input.ensures c.as_slice.ensures.value
    (inr (graph_gave (IsRunReport form table) table _ graph text c.in_ok-graph.ensures.graph (c.in_ok-lists.lists.items, c.in_ok-lists.ensures.run, says)))
