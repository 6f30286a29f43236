use Rattle.std.proofs.Common.{◌≡◌, ◌+◌, ◌∷◌, [], ◌++◌, length, map, sym, ◌∙◌, ap, subst, arith}
use Rattle.std.proofs.lemmas.Result.{on_ok_weaker}
use Rattle.bag_model.specs.Shapes as model
use Rattle.bag_model.specs.Slots.{slots_of, slot_count}
use Rattle.field_table.specs.declared.shapes.Shape.{Shape}
use Rattle.field_table.specs.declared.shapes.Slot.{Slot}
use Rattle.field_table.specs.declared.shapes.Slots.{Slots}
use Rattle.field_table.specs.declared.shapes.Shape.TheOpen.{Slots-F}
use Rattle.field_table.specs.declared.shapes.Shape.TheViews.{out-Slots}
use Rattle.field_table.specs.Tables.{capped, HasPlaces, IsKept, IsLoose, KeptField}
use Rattle.field_table.specs.Plain.{field_of, nodes_of, field_name, kept_shape}
use Rattle.field_table.proofs.Held.{field_open}
use Rattle.field_table.proofs.Opened.{has_indexes, fields_of-items, fields_of-rolled, map_push}
use Rattle.field_table.proofs.Pushed.{either_way, pushed_indexes, same_fields, anew, shape-anew, field-anew, kept-anew}
use Rattle.field_table.proofs.shapes.Slots.push.Goals as goal

pub returns-clause-ok : goal.returns-clause-ok
returns-clause-ok c =
    let s = c.args.self.now in
    let x = anew c.args.item c.sort_bag_index.new.self in
    let field : field_of x ≡ field_of c.args.item = field-anew c.args.item c.sort_bag_index.new.self c.sort_bag_index.ensures.same in
    on_ok_weaker c.add_field.result (λ pushed.
    fields_of-rolled (record { items = c.add_field.new.items; ends = c.add_field.new.ends; by_name = c.add_field.new.by_name })
    ∙ (ap (map field_of) pushed ∙ (map_push field_of (out-Slots s).items.items x ∙ (ap (λ l. l ++ field_of x ∷ []) (sym (fields_of-items s)) ∙ ap (λ f. model.fields (nodes_of s) ++ f ∷ []) field)))) c.add_field.ensures.items

pub returns-clause-indexed : goal.returns-clause-indexed
returns-clause-indexed c h loose =
    let s = c.args.self.now in
    let x = anew c.args.item c.sort_bag_index.new.self in
    let r : Slots-F Shape Slot Slots = record { items = c.add_field.new.items; ends = c.add_field.new.ends; by_name = c.add_field.new.by_name } in
    let shape_kept : IsKept (kept_shape c.sort_bag_index.new.self) = c.sort_bag_index.ensures.kept (subst IsLoose (ap (λ (k : KeptField). k.shape) (field_open c.args.item)) loose) in
    let counted : c.saturating_add-end.result ≡ capped (length (slots_of (nodes_of s)) + slot_count (field_of x).shape) =
    omega (arith, c.saturating_add-end.ensures, c.slot_count.ensures h, c.slot_count-2.ensures shape_kept, ap slot_count (shape-anew c.args.item c.sort_bag_index.new.self))
    in
    either_way c.add_field.result c.add_field.ensures.items c.add_field.ensures.ends c.add_field.ensures.places c.add_field.ensures.err
    (λ items ends places. pushed_indexes s x r c.saturating_add-end.result h (kept-anew c.args.item c.sort_bag_index.new.self shape_kept) items ends places counted)
    (λ same. same_fields s r h same.0 same.1 (subst (HasPlaces (map field_name (out-Slots s).items.items)) (sym same.2) (has_indexes s h).places))
