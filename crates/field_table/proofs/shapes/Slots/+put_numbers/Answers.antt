use Rattle.std.proofs.Common.{◌≡◌, ℕ, ◌-◌, ◌++◌, List, [], ◌∷◌, length, Some, sym, ◌∙◌, ap, arith}
use Rattle.std.specs.List.{slice_get}
use Rattle.std.specs.Option.{option_map}
use Rattle.std.proofs.lemmas.List.{length-append}
use Rattle.bag_model.specs.Slots.{slots_of, SlotAt}
use Rattle.field_table.specs.declared.shapes.Shape.TheViews.{out-Slots}
use Rattle.field_table.specs.Plain.{nodes_of}
use Rattle.field_table.proofs.Opened.{length_fields}
use Rattle.field_table.proofs.Held.{held, held_own, held_inside, no_bag, some_level, numbers_within}
use Rattle.field_table.proofs.shapes.Slots.+put_numbers.Goals as goal

pub slots_before-requires : goal.slots_before-requires
slots_before-requires t c = record { ready = c.requires.ready; place = omega (arith, c.place_holding-place.ensures.within) }

pub overflow_sub-inside : goal.overflow_sub-inside
overflow_sub-inside t c =
    let place = c.place_holding-place.result in
    let is = c.slots_before.ensures in
    omega (arith, is, c.place_holding-place.ensures.from)

pub index-item-requires : goal.index-item-requires
index-item-requires t c = omega (arith, (out-Slots c.args.self.now).items.ok.0, length_fields c.args.self.now, c.place_holding-place.ensures.within)

pub push-requires : goal.push-requires
push-requires t c =
    let h = held c.args.self.now c.args.slot c.place_holding-place.result c.index-item.result.now c.place_holding-place.ensures c.index-item.ensures in
    omega (arith, c.requires.room, some_level c.args.self.now c.args.slot c.place_holding-place.result c.index-item.result.now h)

pub put_numbers-requires : goal.put_numbers-requires
put_numbers-requires t c =
    let x = c.index-item.result.now in
    let h = held_inside c.args.self.now c.args.slot c.place_holding-place.result c.slots_before.result x c.in-Bag.inner c.requires.ready c.place_holding-place.ensures c.index-item.ensures c.slots_before.ensures c.in-Bag.is in
    (omega (arith, c.decreases, h.fewer_nodes), (h.ready, (h.less, omega (arith, c.requires.room, h.deeper, ap length c.push.ensures, length-append c.args.path.now (c.from.result ∷ [])))))

pub returns-in-Bag : goal.returns-in-Bag
returns-in-Bag t c =
    let x = c.index-item.result.now in
    let h = held_inside c.args.self.now c.args.slot c.place_holding-place.result c.slots_before.result x c.in-Bag.inner c.requires.ready c.place_holding-place.ensures c.index-item.ensures c.slots_before.ensures c.in-Bag.is in
    let pushed : c.push.new.self ≡ c.args.path.now ++ x.number ∷ [] = c.push.ensures ∙ ap (λ n. c.args.path.now ++ n ∷ []) c.from.ensures in
    let inside = slice_get (slots_of (nodes_of c.in-Bag.inner)) (c.args.slot - c.slots_before.result) in
    c.put_numbers.ensures ∙ ap (λ (front : List ℕ). option_map (λ (found : SlotAt). front ++ found.numbers) inside) pushed
    ∙ numbers_within c.args.path.now x.name x.number inside ∙ ap (option_map (λ (found : SlotAt). c.args.path.now ++ found.numbers)) (sym h.found)

pub returns-in_default : goal.returns-in_default
returns-in_default t c =
    let s = c.args.self.now in
    let place = c.place_holding-place.result in
    let x = c.index-item.result.now in
    let h = held s c.args.slot place x c.place_holding-place.ensures c.index-item.ensures in
    let pushed : c.push.new.self ≡ c.args.path.now ++ x.number ∷ [] = c.push.ensures ∙ ap (λ n. c.args.path.now ++ n ∷ []) c.from.ensures in
    ap Some pushed ∙ sym (ap (option_map (λ (found : SlotAt). c.args.path.now ++ found.numbers)) (held_own s c.args.slot place x h (no_bag x.shape c.in_default.not-Bag)))
