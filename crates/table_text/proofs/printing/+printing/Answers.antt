use Rattle.std.proofs.Common.{◌≡◌, ◌++◌, Some, ap, ◌∙◌, arith}
use Rattle.std.specs.List.{slice_get}
use Rattle.bag_model.specs.Shapes.{Field, fields}
use Rattle.bag_model.proofs.SizeLaws.{size_at}
use Rattle.field_table.specs.Plain.{shape_of, nodes_of}
use Rattle.field_table.proofs.Held.{field_is}
use Rattle.std.specs.Fmt.{decimal}
use Rattle.table_text.specs.TableTexts.{field_line}
use Rattle.table_text.proofs.Places.{answered}
use Rattle.table_text.proofs.Printed.{next_field, all_fields, field_levels}
use Rattle.table_text.proofs.printing.+printing.Goals as goal

pub put_fields-put_bag-requires : goal.put_fields-put_bag-requires
put_fields-put_bag-requires t c =
    let nodes = nodes_of c.args.fields.now in
    let slot = c.unwrap-field.result.now in
    let field : Field = record { name = slot.name; number = slot.number; shape = shape_of slot.shape } in
    let there : slice_get (fields nodes) c.loop-at.at ≡ Some field =
    answered _ c.get.result c.unwrap-field.result (fields nodes) c.loop-at.at c.get.ensures c.unwrap-field.ensures ∙ ap Some (field_is slot) in (
      omega (arith, c.decreases, size_at nodes c.loop-at.at field there),
      omega (arith, c.requires, field_levels nodes c.loop-at.at field there),
    )

pub put_fields-loop-at-preserved : goal.put_fields-loop-at-preserved
put_fields-loop-at-preserved t c =
    let nodes = nodes_of c.args.fields.now in
    let slot = c.unwrap-field.result.now in
    let field : Field = record { name = slot.name; number = slot.number; shape = shape_of slot.shape } in
    let there : slice_get (fields nodes) c.loop-at.at ≡ Some field =
    answered _ c.get.result c.unwrap-field.result (fields nodes) c.loop-at.at c.get.ensures c.unwrap-field.ensures ∙ ap Some (field_is slot) in
    next_field c.args.depth c.args.into.now.items c.loop-at.into.items c.put_line.new.into.items c.put_bag.new.into.items nodes c.loop-at.at field c.loop-at.invariant
    (c.in_ok-put_line.ensures ∙ ap (λ (f : Field). c.loop-at.into.items ++ field_line (decimal c.args.depth) f.name f.number f.shape) (field_is slot)) c.in_ok-put_bag.ensures there

pub put_fields-returns : goal.put_fields-returns
put_fields-returns t c =
    all_fields c.args.depth c.args.into.now.items c.loop-at.into.items (nodes_of c.args.fields.now) c.loop-at.at c.loop-at.invariant
    (omega arith)
