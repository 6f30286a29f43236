use Rattle.std.proofs.Common.{◌≡◌, List, ℕ, map, codes, string_bytes, ap, ◌∙◌, rules}
use Rattle.context_model.specs.Framing.{bytes_of}
use Rattle.text_lines.specs.HexLines.{hex_text}
use Rattle.serde_json.specs.Data.{string, array, object, member, no_members}
use Rattle.serde_json.specs.View.{view, items_of}
use Rattle.serde_json.specs.declared.value.Value.{the_lemmas}
use Rattle.context_json.specs.Objects.{context_object}
use Rattle.context_json.proofs.objects.context_object.Goals as goal

pub returns : goal.returns
returns c =
    let fields = map view c.in_ok-fields.fields.items in
    let built : view c.in_ok-json.field-0 ≡ object (member (codes "bytes") (string (string_bytes c.in_ok-bytes.bytes)) (member (codes "fields") (array (items_of fields)) no_members)) =
    search (rules, the_lemmas) in
    let digits : string_bytes c.in_ok-bytes.bytes ≡ hex_text (bytes_of c.args.form c.args.context.now) = c.in_ok-bytes.ensures in
    let is : view c.in_ok-json.field-0 ≡ context_object c.args.form c.args.context.now fields =
    built ∙ ap (λ (b : List ℕ). object (member (codes "bytes") (string b) (member (codes "fields") (array (items_of fields)) no_members))) digits in
    (fields, c.in_ok-fields.ensures, is)
