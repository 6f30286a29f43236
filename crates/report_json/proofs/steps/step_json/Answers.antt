use Rattle.std.proofs.Common.{◌≡◌, List, ℕ, [], map, codes, string_bytes, ap, ◌∙◌, subst, rules}
use Rattle.std.proofs.lemmas.List.{get_or_read}
use Rattle.context_model.specs.Atoms.{Atom}
use Rattle.context_model.specs.Framing.{bytes_of}
use Rattle.trace_model.specs.Runs.{list_at}
use Rattle.text_lines.specs.HexLines.{hex_text}
use Rattle.serde_json.specs.Data.{string, number, array, object, unsigned, member, no_members}
use Rattle.serde_json.specs.View.{view, items_of}
use Rattle.serde_json.specs.declared.value.Value.{the_lemmas}
use Rattle.context_json.specs.Objects.{AreSlotObjects}
use Rattle.report_json.specs.JsonReports.{step_object}
use Rattle.context_model.specs.declared.Form.{Form}
use Rattle.trace_model.specs.Graphs.{step_form}
use Rattle.trace_model.proofs.ShownSteps.{form_there}
use Rattle.recorded_graph.specs.Plain.{service_of, step_of}
use Rattle.report_json.proofs.steps.step_json.Goals as goal

pub returns : goal.returns
returns c =
    let graph = c.args.graph.now in
    let lists = c.args.lists.now in
    let list = c.index-lists-number.result in
    let form = c.service.result.now.form in
    let own : form ≡ step_form graph c.args.number = form_there graph c.args.number (step_of c.step.result.now) (service_of c.service.result.now) c.step.ensures c.service.ensures in
    let fields = map view c.in_ok-fields.fields.items in
    let same : list ≡ list_at lists c.args.number = get_or_read lists c.args.number list c.requires.within c.index-lists-number.is [] in
    let built : view c.in_ok-json.field-0 ≡ object (member (codes "bytes") (string (string_bytes c.in_ok-bytes.bytes)) (member (codes "fields") (array (items_of fields)) (member (codes "step") (number (unsigned c.args.number)) no_members))) =
    search (rules, the_lemmas) in
    let digits : string_bytes c.in_ok-bytes.bytes ≡ hex_text (bytes_of form list) = c.in_ok-bytes.ensures in
    let is : view c.in_ok-json.field-0 ≡ step_object form list fields c.args.number =
    built ∙ ap (λ (b : List ℕ). object (member (codes "bytes") (string b) (member (codes "fields") (array (items_of fields)) (member (codes "step") (number (unsigned c.args.number)) no_members)))) digits in
    (fields, subst (λ (l : List Atom). AreSlotObjects c.args.table.now l fields) same c.in_ok-fields.ensures, is ∙ ap (λ (f : Form). step_object f list fields c.args.number) own ∙ ap (λ (l : List Atom). step_object (step_form graph c.args.number) l fields c.args.number) same)
