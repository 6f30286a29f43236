use Rattle.std.proofs.Common.{◌++◌, codes, Some, length, ap, ◌∙◌, arith}
use Rattle.std.specs.List.{slice_get}
use Rattle.std.proofs.lemmas.List.{length-map}
use Rattle.bag_model.specs.Shapes.{Field, fields}
use Rattle.bag_model.specs.Values.{pairs, values_list}
use Rattle.field_table.specs.Plain.{shape_of, nodes_of}
use Rattle.field_table.proofs.Held.{field_is}
use Rattle.scalar_types.specs.Scalars.{value_of}
use Rattle.bag_value.specs.declared.vals.Val.{Val}
use Rattle.bag_value.specs.Vals.{plain, pair_of}
use Rattle.text_model.specs.ScalarTexts.{scalar_text}
use Rattle.text_model.specs.ValueTexts.{value_text, entry_texts, field_texts}
use Rattle.report_text.proofs.Grown.{unchanged, appended, further, stopped}
use Rattle.report_text.proofs.Joined.{next_text, closed, three_parts, read_part}
use Rattle.report_text.proofs.Textless.{no_text, bag_textless}
use Rattle.report_text.proofs.Parts.{entry_text, entries_mapped, field_text, get_field_text, length-field_texts, entry_size, value_size}
use Rattle.report_text.proofs.Places.{answered, seen, mapped}
use Rattle.report_text.proofs.value_texts.+text.Goals as goal

pub put_map-put_value-requires : goal.put_map-put_value-requires
put_map-put_value-requires t c =
    let entry = c.entry-item.result in
    let es = c.args.entries.now in (
      omega (arith, c.decreases, entry_size es c.loop-at.at (pair_of entry) (seen pair_of c.as_slice-entry-items.result.now entry (pairs es) c.loop-at.at c.as_slice-entry-items.ensures (omega arith) c.entry-item.is)),
      tt,
    )

pub put_map-loop-at-preserved : goal.put_map-loop-at-preserved
put_map-loop-at-preserved t c =
    let at = c.loop-at.at in
    let es = c.args.entries.now in
    let shape = shape_of c.args.shape.now in
    let entry = c.entry-item.result in
    let there = seen pair_of c.as_slice-entry-items.result.now entry (pairs es) at c.as_slice-entry-items.ensures (omega arith) c.entry-item.is in
    next_text (c.args.into.now.items ++ codes "{") c.loop-at.into.items c.put_comma.new.into.items c.put_value.new.into.items
    (entry_texts shape es) at (entry_text shape (pair_of entry)) c.loop-at.invariant c.in_ok-put_comma.ensures.ok
    (three_parts c.put_comma.new.into.items c.put_scalar.new.into.items c.push-in-loop-at.new.self.items c.put_value.new.into.items
    (scalar_text (value_of entry.key)) (codes ":") (value_text shape (plain entry.value)) c.in_ok-put_scalar.ensures.ok c.in_ok-push-2.ensures.items c.in_ok-put_value.ensures.ok)
    (ap (λ l. slice_get l at) (entries_mapped shape es) ∙ mapped (entry_text shape) (pairs es) at (pair_of entry) there)

pub put_map-returns : goal.put_map-returns
put_map-returns t c =
    let es = c.args.entries.now in
    let shape = shape_of c.args.shape.now in
    let whole =
    closed c.args.into.now.items (codes "{") c.loop-at.into.items c.push-2.new.self.items (codes "}") (entry_texts shape es) c.loop-at.at c.loop-at.invariant
    (omega (arith, ap length (entries_mapped shape es), length-map (pairs es) (entry_text shape), length-map c.as_slice-entry-items.result.now pair_of, ap length c.as_slice-entry-items.ensures))
    c.in_ok-push-3.ensures.items
    in
    record { ok = whole; err = tt }

pub put_bag-put_value-requires : goal.put_bag-put_value-requires
put_bag-put_value-requires t c =
    let vs = c.args.values.now in
    let v = c.unwrap-value.result in (
      omega (arith, c.decreases, value_size vs c.loop-at.at (plain v.now) (answered _ c.get-in-loop-at.result v (values_list vs) c.loop-at.at c.get-in-loop-at.ensures c.unwrap-value.ensures)),
      tt,
    )

pub put_bag-loop-at-preserved : goal.put_bag-loop-at-preserved
put_bag-loop-at-preserved t c =
    let at = c.loop-at.at in
    let nodes = nodes_of c.args.fields.now in
    let vs = c.args.values.now in
    let slot = c.unwrap-field.result in
    let v = c.unwrap-value.result in
    let field : Field = record { name = slot.now.name; number = slot.now.number; shape = shape_of slot.now.shape } in
    let there = answered _ c.get.result slot (fields nodes) at c.get.ensures c.unwrap-field.ensures ∙ ap Some (field_is slot.now) in
    let value_there = answered _ c.get-in-loop-at.result v (values_list vs) at c.get-in-loop-at.ensures c.unwrap-value.ensures in
    next_text (c.args.into.now.items ++ codes "[") c.loop-at.into.items c.put_comma.new.into.items c.put_value.new.into.items
    (field_texts nodes vs) at (field_text field (plain v.now)) c.loop-at.invariant c.in_ok-put_comma.ensures.ok
    (three_parts c.put_comma.new.into.items c.extend_from_slice.new.self.items c.push-in-loop-at.new.self.items c.put_value.new.into.items
    slot.now.name (codes "=") (value_text (shape_of slot.now.shape) (plain v.now))
    (read_part c.put_comma.new.into.items c.extend_from_slice.new.self.items c.as_bytes.result.now c.as_str.result.now slot.now.name
    c.in_ok-extend_from_slice.ensures.items c.as_bytes.ensures.value c.as_str.ensures.value)
    c.in_ok-push-2.ensures.items c.in_ok-put_value.ensures.ok)
    (get_field_text nodes vs at field (plain v.now) there value_there)

pub put_bag-returns : goal.put_bag-returns
put_bag-returns t c =
    let nodes = nodes_of c.args.fields.now in
    let vs = c.args.values.now in
    let whole =
    closed c.args.into.now.items (codes "[") c.loop-at.into.items c.push-2.new.self.items (codes "]") (field_texts nodes vs) c.loop-at.at c.loop-at.invariant
    (omega (arith, length-field_texts nodes vs, c.len.ensures, c.len-2.ensures, c.min-at-end.ensures))
    c.in_ok-push-3.ensures.items
    in
    record { ok = whole; err = tt }

pub put_value-returns-in_default-2 : goal.put_value-returns-in_default-2
put_value-returns-in_default-2 t c =
    let shape = c.args.shape.now in
    let same =
    no_text c.args.into.now.items (value_text (shape_of shape) (plain c.args.value.now))
    (ap (λ (v : Val). value_text (shape_of shape) (plain v)) c.in_default.is-1 ∙ bag_textless shape c.in_default.field-0-1 c.in_default.not-Bag-0)
    in
    record { ok = same; err = tt }

pub put_map-returns-in_err-push-3 : goal.put_map-returns-in_err-push-3
put_map-returns-in_err-push-3 t c =
    stopped _ c.from_residual-in_err-push-3.result _ _ _ _ _ _ c.from_residual-in_err-push-3.ensures.1 c.loop-at.invariant (unchanged _ _ c.in_err-push-3.ensures.items)

pub put_bag-returns-in_err-push-3 : goal.put_bag-returns-in_err-push-3
put_bag-returns-in_err-push-3 t c =
    stopped _ c.from_residual-in_err-push-3.result _ _ _ _ _ _ c.from_residual-in_err-push-3.ensures.1 c.loop-at.invariant (unchanged _ _ c.in_err-push-3.ensures.items)

pub put_bag-returns-in_err-extend_from_slice : goal.put_bag-returns-in_err-extend_from_slice
put_bag-returns-in_err-extend_from_slice t c =
    stopped _ c.from_residual-in_err-extend_from_slice.result _ _ _ _ _ _ c.from_residual-in_err-extend_from_slice.ensures.1 c.loop-at.invariant
    (appended _ _ _ (c.in_err-extend_from_slice.ensures.items ∙ c.in_ok-put_comma.ensures.ok))

pub put_bag-returns-in_err-put_value : goal.put_bag-returns-in_err-put_value
put_bag-returns-in_err-put_value t c =
    stopped _ c.from_residual-in_err-put_value.result _ _ _ _ _ _ c.from_residual-in_err-put_value.ensures.1 c.loop-at.invariant
    (further _ _ _
    (appended _ _ _ (three_parts _ _ _ _ _ _ _ c.in_ok-put_comma.ensures.ok c.in_ok-extend_from_slice.ensures.items c.in_ok-push-2.ensures.items))
    c.in_err-put_value.ensures.err)
