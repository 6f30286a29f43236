use Rattle.std.proofs.Common.{List, map, refl, sym, subst, arith}
use Rattle.std.specs.Vec.{with_items}
use Rattle.std.proofs.lemmas.List.{with_items_is}
use Rattle.field_table.specs.declared.shapes.Slot.{Slot}
use Rattle.field_table.specs.declared.shapes.Shape.TheViews.{out-Slots}
use Rattle.field_table.specs.Tables.{HasPlaces, IsNameOrder}
use Rattle.field_table.specs.Plain.{field_name, IsIndexed}
use Rattle.field_table.proofs.Opened.{has_indexes}
use Rattle.field_table.proofs.Pushed.{same_fields, roll_ordered}
use Rattle.field_table.proofs.shapes.Slots.sort_index.Goals as goal

-- The places of the fields are in the order of their names.
in_order : (c : goal.After-self-1) → IsIndexed c.args.self.now → IsNameOrder (map field_name (out-Slots c.args.self.now).items.items) (with_items (out-Slots c.args.self.now).by_name c.sort_places.new.by_name).items
in_order c h =
    let s = out-Slots c.args.self.now in
    let places : HasPlaces (map field_name c.deref.result.now) c.deref_mut.result.now =
    subst (λ (items : List Slot). HasPlaces (map field_name items) c.deref_mut.result.now) (sym c.deref.ensures.value)
    (subst (HasPlaces (map field_name s.items.items)) (sym c.deref_mut.ensures.value) (has_indexes c.args.self.now h).places)
    in
    subst (IsNameOrder (map field_name s.items.items)) (sym (with_items_is s.by_name c.sort_places.new.by_name (omega (arith, c.sort_places.auto.by_name, c.deref_mut.ensures.len))))
    (subst (λ (items : List Slot). IsNameOrder (map field_name items) c.sort_places.new.by_name) c.deref.ensures.value (c.sort_places.ensures places))

pub returns-clause-indexed : goal.returns-clause-indexed
returns-clause-indexed c h = same_fields c.args.self.now _ h refl refl (in_order c h).places_are

pub returns-clause-ordered : goal.returns-clause-ordered
returns-clause-ordered c h = roll_ordered _ (in_order c h)
