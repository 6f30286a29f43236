use Rattle.std.proofs.Common.{◌≡◌, Some, sym, ◌∙◌, ap, arith}
use Rattle.std.specs.List.{slice_get}
use Rattle.std.specs.Option.{option_map}
use Rattle.std.proofs.lemmas.Option.{slice_get_within}
use Rattle.bag_model.specs.Shapes.{fields, Field}
use Rattle.field_table.specs.declared.shapes.Shape.TheViews.{out-Slots}
use Rattle.field_table.specs.Tables.{KeptField}
use Rattle.field_table.specs.Plain.{nodes_of, field_of}
use Rattle.field_table.proofs.Opened.{get_field, length_fields}
use Rattle.field_table.proofs.Held.{field_open, item_at, bag_ready}
use Rattle.field_table.proofs.Numbers.{only_there}
use Rattle.field_table.proofs.shapes.Slots.find_number.Goals as goal

pub returns-then-place-len-clause-found : goal.returns-then-place-len-clause-found
returns-then-place-len-clause-found c i f at is =
    let s = c.args.self.now in
    let here = only_there s c.deref.result.now c.args.number c.lesser_numbers-place.result i f c.deref.ensures.value c.requires c.lesser_numbers-place.ensures.point at is in
    omega (arith, here, slice_get_within (fields (nodes_of s)) i f at, length_fields s, (out-Slots s).items.ok.0)

pub returns-then-from-number-clause-found : goal.returns-then-from-number-clause-found
returns-then-from-number-clause-found c =
    let s = c.args.self.now in
    let place = c.lesser_numbers-place.result in
    let x = c.index-item.result.now in
    let there = item_at s place x (omega (arith, (out-Slots s).items.ok.0, c.lesser_numbers-place.ensures.bound)) c.index-item.ensures in
    (get_field s place ∙ ap (option_map field_of) there, ap (λ (k : KeptField). k.number) (field_open x) ∙ (sym c.from.ensures ∙ c.if-from-number.true))

pub returns-then-from-number-clause-ready : goal.returns-then-from-number-clause-ready
returns-then-from-number-clause-ready c ready inner is =
    let s = c.args.self.now in
    let place = c.lesser_numbers-place.result in
    let x = c.index-item.result.now in
    bag_ready s place x inner ready (item_at s place x (omega (arith, (out-Slots s).items.ok.0, c.lesser_numbers-place.ensures.bound)) c.index-item.ensures) is

pub returns-else-from-number-clause-found : goal.returns-else-from-number-clause-found
returns-else-from-number-clause-found c i f at is =
    let s = c.args.self.now in
    let place = c.lesser_numbers-place.result in
    let x = c.index-item.result.now in
    let here = only_there s c.deref.result.now c.args.number place i f c.deref.ensures.value c.requires c.lesser_numbers-place.ensures.point at is in
    let there = item_at s place x (omega (arith, (out-Slots s).items.ok.0, slice_get_within (fields (nodes_of s)) i f at, length_fields s, here)) c.index-item.ensures in
    let same : Some (field_of x) ≡ Some f = sym (get_field s place ∙ ap (option_map field_of) there) ∙ (ap (slice_get (fields (nodes_of s))) (sym here) ∙ at) in
    let own : field_of x ≡ f = cc same in
    c.if-from-number.false (c.from.ensures ∙ (sym (ap (λ (k : KeptField). k.number) (field_open x)) ∙ (ap (λ (g : Field). g.number) own ∙ is)))
