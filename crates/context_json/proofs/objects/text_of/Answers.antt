use Rattle.std.proofs.Common.{◌≡◌, ℕ, List, ◌++◌, IsUtf8, sym, ap, ◌∙◌, subst}
use Rattle.field_table.specs.Plain.{shape_of}
use Rattle.bag_value.specs.Vals.{plain}
use Rattle.text_model.specs.ValueTexts.{value_text}
use Rattle.context_json.proofs.ValueBytes.{value_utf8}
use Rattle.context_json.proofs.objects.text_of.Goals as goal

pub unwrap-requires : goal.unwrap-requires
unwrap-requires c =
    let shape = shape_of c.args.shape.now in
    let value = plain c.args.value.now in
    let is : c.put_value.new.into.items ≡ value_text shape value = c.in_ok-put_value.ensures.ok ∙ ap (λ (l : List ℕ). l ++ value_text shape value) c.new-text.ensures.items in
    c.from_utf8.ensures.succeeds (subst IsUtf8 (sym is) (value_utf8 shape value c.requires.shape c.requires.value))
