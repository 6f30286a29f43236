use Rattle.std.proofs.Common.{◌≡◌, ℕ, List, length, get_or, sym, ap, arith}
use Rattle.std.specs.List.{slice_index}
use Rattle.trace_model.proofs.ShownSteps.{shown_within}
use Rattle.report_json.proofs.StepObjects.{one_begun, all_begun}
use Rattle.report_json.proofs.reports.report_json.Goals as goal

pub put_step-requires-clause-step : goal.put_step-requires-clause-step
put_step-requires-clause-step c =
    shown_within c.args.graph.now c.shows-number-items.result.now c.loop-at.at c.known.ensures.sound c.shows-number-items.ensures c.loop-at-test.true

pub put_step-requires-clause-within : goal.put_step-requires-clause-within
put_step-requires-clause-within c =
    let l = shown_within c.args.graph.now c.shows-number-items.result.now c.loop-at.at c.known.ensures.sound c.shows-number-items.ensures c.loop-at-test.true in
    omega (arith, l, c.requires.as_many)

pub put_step-requires-clause-typed : goal.put_step-requires-clause-typed
put_step-requires-clause-typed c =
    let l = shown_within c.args.graph.now c.shows-number-items.result.now c.loop-at.at c.known.ensures.sound c.shows-number-items.ensures c.loop-at-test.true in
    c.requires.typed (get_or c.shows-number-items.result.now c.loop-at.at 0) (omega (arith, l, c.requires.as_many))

pub loop-at-preserved : goal.loop-at-preserved
loop-at-preserved c =
    let shows = c.args.graph.now.shows in
    let at = c.loop-at.at in
    let number = get_or c.shows-number-items.result.now at 0 in
    let here : slice_index shows at ≡ number = ap (λ (l : List ℕ). slice_index l at) (sym c.shows-number-items.ensures) in
    one_begun c.args.table.now c.args.graph.now c.args.lists.now shows at number c.loop-at.text.items c.put_comma.new.into.items c.put_step.new.into.items c.loop-at.invariant
    c.in_ok-put_comma.ensures.ok here c.in_ok-put_step.ensures

pub returns : goal.returns
returns c =
    all_begun c.args.table.now c.args.graph.now c.args.lists.now c.loop-at.at c.loop-at.text.items c.push-2.new.self.items c.loop-at.invariant
    (omega (arith, c.loop-at-test.false, c.loop-at.auto.at-end, ap length c.shows-number-items.ensures))
    c.in_ok-push-2.ensures.items
