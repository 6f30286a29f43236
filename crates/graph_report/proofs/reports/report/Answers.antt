use Rattle.std.proofs.Common.{ℕ, List, get_or, take, sym, subst, arith}
use Rattle.std.proofs.lemmas.List.{take_more}
use Rattle.graph_report.specs.Reports.{AreReported}
use Rattle.trace_model.proofs.ShownSteps.{shown_within}
use Rattle.graph_report.proofs.ReportParts.{one_more}
use Rattle.graph_report.proofs.reports.report.Goals as goal

pub put_step-requires-clause-step : goal.put_step-requires-clause-step
put_step-requires-clause-step c =
    shown_within c.args.graph.now c.shows-number-items.result.now c.loop-number.number-index c.known.ensures.sound c.shows-number-items.ensures c.loop-number-test.true

pub put_step-requires-clause-within : goal.put_step-requires-clause-within
put_step-requires-clause-within c =
    let l = shown_within c.args.graph.now c.shows-number-items.result.now c.loop-number.number-index c.known.ensures.sound c.shows-number-items.ensures c.loop-number-test.true in
    omega (arith, l, c.requires.as_many)

pub put_step-requires-clause-typed : goal.put_step-requires-clause-typed
put_step-requires-clause-typed c =
    let l = shown_within c.args.graph.now c.shows-number-items.result.now c.loop-number.number-index c.known.ensures.sound c.shows-number-items.ensures c.loop-number-test.true in
    c.requires.typed (get_or c.shows-number-items.result.now c.loop-number.number-index 0) (omega (arith, l, c.requires.as_many))

pub loop-number-preserved : goal.loop-number-preserved
loop-number-preserved c =
    let items = c.shows-number-items.result.now in
    let k = c.loop-number.number-index in
    let done : AreReported c.args.table.now c.args.graph.now c.args.lists.now (take k items) c.loop-number.text.items = c.loop-number.invariant in
    subst (λ (shows : List ℕ). AreReported c.args.table.now c.args.graph.now c.args.lists.now shows c.put_step.new.into.items)
    (sym (take_more items k 0 c.loop-number-test.true))
    (one_more c.args.table.now c.args.graph.now c.args.lists.now (take k items) (get_or items k 0) c.loop-number.text.items c.put_step.new.into.items done c.in_ok-put_step.ensures)
