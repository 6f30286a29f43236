use Rattle.std.proofs.Common.{◌≡◌, List, ℕ, ◌∷◌, [], ◌++◌, ap, ◌∙◌, codes}
use Rattle.std.specs.Fmt.{decimal}
use Rattle.std.proofs.lemmas.List.{get_or_read}
use Rattle.std.proofs.lemmas.Result.{on_ok_weaker}
use Rattle.recorded_graph.specs.Plain.{service_of, step_of}
use Rattle.trace_model.proofs.ShownSteps.{form_there}
use Rattle.graph_report.proofs.ReportParts.{step_added}
use Rattle.graph_report.proofs.reports.put_step.Goals as goal

pub returns : goal.returns
returns c =
    let graph = c.args.graph.now in
    let lists = c.args.lists.now in
    let digits : c.as_bytes.result.now ≡ decimal c.args.number = c.as_bytes.ensures.value ∙ c.format.ensures.text in
    let first = c.in_ok-extend_from_slice.ensures.items in
    let second = c.in_ok-extend_from_slice-2.ensures.items in
    let last = c.in_ok-push.ensures.items in
    on_ok_weaker c.put_block.result
    (step_added c.args.table.now graph lists c.args.number c.service.result.now.form c.index-lists-number.result c.args.into.now.items c.push.new.self.items c.put_block.new.into.items
    (form_there graph c.args.number (step_of c.step.result.now) (service_of c.service.result.now) c.step.ensures c.service.ensures)
    (get_or_read lists c.args.number c.index-lists-number.result c.requires.within c.index-lists-number.is [])
    (last ∙ ap (λ (t : List ℕ). t ++ 10 ∷ []) (second ∙ ap (λ (t : List ℕ). t ++ c.as_bytes.result.now) first ∙ ap (λ (t : List ℕ). (c.args.into.now.items ++ codes "step ") ++ t) digits)))
    c.put_block.ensures.ok
