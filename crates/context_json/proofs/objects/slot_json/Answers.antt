use Rattle.std.proofs.Common.{sym, subst}
use Rattle.bag_model.specs.Shapes.{Shape}
use Rattle.bag_model.specs.Tables.{IsShape}
use Rattle.bag_model.specs.Values.{IsOfShape}
use Rattle.field_table.specs.Plain.{shape_of}
use Rattle.bag_value.specs.Vals.{plain}
use Rattle.context_json.proofs.SlotShapes.{slot_shape, slot_there, told}
use Rattle.context_json.proofs.objects.slot_json.Goals as goal

pub text_of-requires-clause-shape : goal.text_of-requires-clause-shape
text_of-requires-clause-shape c =
    let table = c.args.table.now in
    let at = slot_there table c.args.slot c.requires.slot in
    subst IsShape (sym (told (λ found. found.shape) table c.args.slot at.0 (shape_of c.shape.result.now) at.1 c.shape.ensures))
    (slot_shape table c.args.slot at.0 c.nodes.ensures.table.well_formed at.1)

pub text_of-requires-clause-value : goal.text_of-requires-clause-value
text_of-requires-clause-value c =
    let table = c.args.table.now in
    let at = slot_there table c.args.slot c.requires.slot in
    subst (λ (shape : Shape). IsOfShape shape (plain c.args.value.now)) (sym (told (λ found. found.shape) table c.args.slot at.0 (shape_of c.shape.result.now) at.1 c.shape.ensures))
    (c.requires.value at.0 at.1)
