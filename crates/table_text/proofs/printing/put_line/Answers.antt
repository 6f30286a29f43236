use Rattle.std.proofs.Common.{◌≡◌, ◌++◌, List, ℕ, sym, ap, ◌∙◌}
use Rattle.std.specs.Fmt.{decimal}
use Rattle.bag_model.specs.Shapes.{Field}
use Rattle.field_table.specs.Plain.{shape_of}
use Rattle.field_table.proofs.Held.{field_is}
use Rattle.table_text.specs.TableTexts.{shape_text, field_line}
use Rattle.table_text.proofs.Printed.{four_parts}
use Rattle.table_text.proofs.printing.put_line.Goals as goal

pub returns : goal.returns
returns c =
    let slot = c.args.field.now in
    let name = c.in_ok-extend_from_slice.ensures.items ∙ ap (λ (l : List ℕ). c.push-2.new.self.items ++ l) (c.as_bytes.ensures.value ∙ c.as_str.ensures.value) in
    let own : c.push-4.new.self.items ≡ c.args.into.now.items ++ field_line (decimal c.args.depth) slot.name slot.number (shape_of slot.shape) =
    four_parts c.args.into.now.items c.put_number.new.into.items c.push.new.self.items c.put_number-2.new.into.items c.push-2.new.self.items
    c.extend_from_slice.new.self.items c.push-3.new.self.items c.put_shape.new.into.items c.push-4.new.self.items
    (decimal c.args.depth) (decimal slot.number) slot.name (shape_text (shape_of slot.shape))
    c.in_ok-put_number.ensures c.in_ok-push.ensures.items c.in_ok-put_number-2.ensures c.in_ok-push-2.ensures.items name c.in_ok-push-3.ensures.items c.in_ok-put_shape.ensures c.in_ok-push-4.ensures.items in
    own ∙ ap (λ (f : Field). c.args.into.now.items ++ field_line (decimal c.args.depth) f.name f.number f.shape) (sym (field_is slot))
