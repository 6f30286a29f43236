use Rattle.std.proofs.Common.{◌≡◌, ℕ, ◌-◌, ◌++◌, List, [], ◌∷◌, Some, sym, ◌∙◌, ap, arith, string_bytes}
use Rattle.std.specs.List.{slice_get}
use Rattle.std.specs.Option.{option_map}
use Rattle.bag_model.specs.Slots.{slots_of, name_path, SlotAt}
use Rattle.field_table.specs.declared.shapes.Shape.TheViews.{out-Slots}
use Rattle.field_table.specs.Plain.{nodes_of}
use Rattle.field_table.proofs.Opened.{length_fields}
use Rattle.field_table.proofs.Held.{held, held_own, held_inside, no_bag, path_within}
use Rattle.field_table.proofs.shapes.Slots.+put_name.Goals as goal

pub slots_before-requires : goal.slots_before-requires
slots_before-requires t c = record { ready = c.requires.ready; place = omega (arith, c.place_holding-place.ensures.within) }

pub overflow_sub-inside : goal.overflow_sub-inside
overflow_sub-inside t c =
    let place = c.place_holding-place.result in
    let is = c.slots_before.ensures in
    omega (arith, is, c.place_holding-place.ensures.from)

pub index-item-requires : goal.index-item-requires
index-item-requires t c = omega (arith, (out-Slots c.args.self.now).items.ok.0, length_fields c.args.self.now, c.place_holding-place.ensures.within)

pub put_name-requires : goal.put_name-requires
put_name-requires t c =
    let x = c.index-item.result.now in
    let h = held_inside c.args.self.now c.args.slot c.place_holding-place.result c.slots_before.result x c.in-Bag.inner c.requires.ready c.place_holding-place.ensures c.index-item.ensures c.slots_before.ensures c.in-Bag.is in
    (omega (arith, c.decreases, h.fewer_nodes), (h.ready, h.less))

pub returns-in_ok-put_name : goal.returns-in_ok-put_name
unfolding lib.Utf8.encode
returns-in_ok-put_name t c =
    let x = c.index-item.result.now in
    let h = held_inside c.args.self.now c.args.slot c.place_holding-place.result c.slots_before.result x c.in-Bag.inner c.requires.ready c.place_holding-place.ensures c.index-item.ensures c.slots_before.ensures c.in-Bag.is in
    let named : string_bytes c.push_str.new.self ≡ string_bytes c.args.path.now ++ x.name = c.in_ok-push_str.ensures.bytes ∙ ap (λ l. string_bytes c.args.path.now ++ l) c.as_str.ensures.value in
    let pushed : string_bytes c.push.new.self ≡ (string_bytes c.args.path.now ++ x.name) ++ 46 ∷ [] = c.in_ok-push.ensures.bytes ∙ ap (λ l. l ++ 46 ∷ []) named in
    let inside = slice_get (slots_of (nodes_of c.in-Bag.inner)) (c.args.slot - c.slots_before.result) in
    c.in_ok-put_name.ensures ∙ ap (λ (front : List ℕ). option_map (λ (found : SlotAt). front ++ name_path found) inside) pushed
    ∙ path_within (nodes_of c.in-Bag.inner) (c.args.slot - c.slots_before.result) (string_bytes c.args.path.now) x.name x.number ∙ ap (option_map (λ (found : SlotAt). string_bytes c.args.path.now ++ name_path found)) (sym h.found)

pub returns-in_default : goal.returns-in_default
returns-in_default t c =
    let s = c.args.self.now in
    let place = c.place_holding-place.result in
    let x = c.index-item.result.now in
    let h = held s c.args.slot place x c.place_holding-place.ensures c.index-item.ensures in
    let named : string_bytes c.push_str.new.self ≡ string_bytes c.args.path.now ++ x.name = c.in_ok-push_str.ensures.bytes ∙ ap (λ l. string_bytes c.args.path.now ++ l) c.as_str.ensures.value in
    ap Some named ∙ sym (ap (option_map (λ (found : SlotAt). string_bytes c.args.path.now ++ name_path found)) (held_own s c.args.slot place x h (no_bag x.shape c.in_default.not-Bag)))
