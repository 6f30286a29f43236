use Rattle.std.proofs.Common.{◌≡◌, ℕ, ◌-◌, ◌<◌, length, sym, ◌∙◌, ap, subst, arith}
use Rattle.bag_model.specs.Shapes as model
use Rattle.bag_model.specs.Slots.{starts, slots_of, slots_in, slot_count, within, SlotAt}
use Rattle.field_table.specs.declared.shapes.Shape.TheViews.{out-Slots}
use Rattle.std.specs.List.{slice_get}
use Rattle.std.specs.Option.{option_map}
use Rattle.field_table.specs.Tables.{plain_shape}
use Rattle.field_table.specs.Plain.{nodes_of, shape_of}
use Rattle.field_table.proofs.Opened.{length_fields}
use Rattle.field_table.proofs.Held.{held, held_own, inner_ready, inner_fewer, no_bag, shape_bag, shape_within}
use Rattle.field_table.proofs.shapes.Slots.+shape_at.Goals as goal

pub slots_before-requires : goal.slots_before-requires
slots_before-requires t c = record { ready = c.requires.ready; place = omega (arith, c.place_holding-place.ensures.within) }

pub overflow_sub-inside : goal.overflow_sub-inside
overflow_sub-inside t c =
    let place = c.place_holding-place.result in
    let is = c.slots_before.ensures in
    omega (arith, is, c.place_holding-place.ensures.from)

pub index-requires : goal.index-requires
index-requires t c = omega (arith, (out-Slots c.args.self.now).items.ok.0, length_fields c.args.self.now, c.place_holding-place.ensures.within)

pub shape_at-requires : goal.shape_at-requires
shape_at-requires t c =
    let s = c.args.self.now in
    let place = c.place_holding-place.result in
    let x = c.index.result.now in
    let inner = c.in-Bag.inner in
    let h = held s c.args.slot place x c.place_holding-place.ensures c.index.ensures in
    let is = c.slots_before.ensures in
    let plain_is : shape_of x.shape ≡ model.Shape.Bag (nodes_of inner) = ap shape_of c.in-Bag.is ∙ ap plain_shape (shape_bag inner) in
    let less : c.args.slot - c.slots_before.result < length (slots_of (nodes_of inner)) =
    subst (λ (n : ℕ). c.args.slot - n < length (slots_of (nodes_of inner))) (sym is) (subst (λ (shape : model.Shape). c.args.slot - starts (model.fields (nodes_of s)) place < slot_count shape) plain_is h.inside) in
    (omega (arith, c.decreases, inner_fewer s place x inner h.at c.in-Bag.is), (inner_ready s place x inner c.requires.ready h.at c.in-Bag.is, less))

pub returns-in-Bag : goal.returns-in-Bag
returns-in-Bag t c =
    let s = c.args.self.now in
    let place = c.place_holding-place.result in
    let x = c.index.result.now in
    let inner = c.in-Bag.inner in
    let h = held s c.args.slot place x c.place_holding-place.ensures c.index.ensures in
    let is = c.slots_before.ensures in
    let plain_is : shape_of x.shape ≡ model.Shape.Bag (nodes_of inner) = ap shape_of c.in-Bag.is ∙ ap plain_shape (shape_bag inner) in
    c.shape_at.ensures ∙ sym (ap (option_map (λ (found : SlotAt). found.shape)) (h.found ∙ ap (option_map (within x.name x.number)) (ap (λ shape. slice_get (slots_in shape) (c.args.slot - starts (model.fields (nodes_of s)) place)) plain_is ∙ ap (slice_get (slots_of (nodes_of inner))) (ap (λ n. c.args.slot - n) (sym is))))
    ∙ shape_within x.name x.number (slice_get (slots_of (nodes_of inner)) (c.args.slot - c.slots_before.result)))

pub returns-in_default : goal.returns-in_default
returns-in_default t c =
    let s = c.args.self.now in
    let place = c.place_holding-place.result in
    let x = c.index.result.now in
    let h = held s c.args.slot place x c.place_holding-place.ensures c.index.ensures in
    sym (ap (option_map (λ (found : SlotAt). found.shape)) (held_own s c.args.slot place x h (no_bag x.shape c.in_default.not-Bag)))
