use Rattle.std.proofs.Common.{◌≡◌, ℕ, List, ◌++◌, ap, ◌∙◌}
use Rattle.serde_json.specs.View.{view}
use Rattle.serde_json.specs.Written.{compact_text}
use Rattle.report_json.proofs.StepObjects.{step_floatless}
use Rattle.report_json.proofs.reports.put_step.Goals as goal

pub returns : goal.returns
returns c =
    let d = view c.in_ok-object.object in
    let text : c.in_ok-to_vec.field-0.items ≡ compact_text d = c.in_ok-to_vec.ensures.text (step_floatless c.args.table.now c.args.graph.now c.args.lists.now c.args.number d c.in_ok-object.ensures) in
    (d, c.in_ok-object.ensures, c.in_ok-extend_from_slice.ensures.items ∙ ap (λ (l : List ℕ). c.args.into.now.items ++ l) (c.as_slice.ensures.value ∙ text))
