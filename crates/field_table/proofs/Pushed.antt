-- The indexes of a bag that is put together: with a field more, or with the places in another order.
use Rattle.std.proofs.Common.{◌≡◌, ℕ, ◌+◌, zero, suc, List, [], ◌∷◌, ◌++◌, length, map, Some, Ok, Err, sym, ◌∙◌, ap, subst, arith}
use Rattle.std.specs.Prelude.{Result, OnOk, OnErr}
use Rattle.std.specs.List.{slice_get}
use Rattle.std.proofs.lemmas.List.{length-map}
use Rattle.bag_model.specs.Shapes as model
use Rattle.bag_model.specs.Slots.{slots_of, slot_count}
use Rattle.bag_model.proofs.SlotLaws.{slots_list, slots_of-list}
use Rattle.field_table.specs.declared.shapes.Shape.{Shape}
use Rattle.field_table.specs.declared.shapes.Slot.{Slot}
use Rattle.field_table.specs.declared.shapes.Slots.{Slots}
use Rattle.field_table.specs.declared.shapes.Shape.TheOpen.{Slots-F}
use Rattle.field_table.specs.declared.shapes.Shape.TheViews.{out-Slots, roll-Slots, out-roll-Slots, roll-Slot}
use Rattle.field_table.specs.declared.shapes.Shape.TheFolds.{fold-roll-Slot}
use Rattle.field_table.proofs.Held.{field_open}
use Rattle.field_table.specs.Tables.{Kept, KeptField, KeptBag, plain_shape, IsKept, capped, ends_after, HasPlaces, IsNameOrder}
use Rattle.field_table.specs.Plain.{shape_step, slot_step, slots_step, kept_shape, kept_field, shape_of, field_of, nodes_of, field_name, IsIndexed, IsOrdered}
use Rattle.field_table.proofs.Opened.{IsKeptField, has_indexes, are_indexed, are_ordered, fields_of-items, fields_of-rolled, map_push}
use Rattle.field_table.proofs.Places.{ends_push, places_push}

-- A call that succeeded or failed, by what each says.
pub either_way : {T E A B C D G : Type 0} (r : Result T E) → OnOk r A → OnOk r B → OnOk r C → OnErr r D → (A → B → C → G) → (D → G) → G
either_way (Ok x) a b c d good bad = good a b c
either_way (Err e) a b c d good bad = bad d

-- What it takes that a bag which is put together has the right indexes, in order or not.
roll_indexed : (r : Slots-F Shape Slot Slots) → r.ends.items ≡ ends_after 0 (map field_of r.items.items) → HasPlaces (map field_name r.items.items) r.by_name.items
    → ((i : ℕ) (slot : Slot) → slice_get r.items.items i ≡ Some slot → IsKeptField slot) → IsIndexed (roll-Slots r)
roll_indexed r ends places inside =
    let opened = out-roll-Slots r in
    are_indexed (roll-Slots r) (record {
      ends = ap (λ (o : Slots-F Shape Slot Slots). o.ends.items) opened ∙ (ends ∙ ap (ends_after 0) (sym (fields_of-rolled r)));
      places = subst (λ (o : Slots-F Shape Slot Slots). HasPlaces (map field_name o.items.items) o.by_name.items) (sym opened) places;
      inside = λ i slot at. inside i slot (ap (λ (o : Slots-F Shape Slot Slots). slice_get o.items.items i) (sym opened) ∙ at);
    })

pub roll_ordered : (r : Slots-F Shape Slot Slots) → IsNameOrder (map field_name r.items.items) r.by_name.items → IsOrdered (roll-Slots r)
roll_ordered r order = are_ordered (roll-Slots r) (subst (λ (o : Slots-F Shape Slot Slots). IsNameOrder (map field_name o.items.items) o.by_name.items) (sym (out-roll-Slots r)) order)

-- The same fields with their places in another order.
pub same_fields : (s : Slots) (r : Slots-F Shape Slot Slots) → IsIndexed s → r.items.items ≡ (out-Slots s).items.items → r.ends.items ≡ (out-Slots s).ends.items
    → HasPlaces (map field_name (out-Slots s).items.items) r.by_name.items → IsIndexed (roll-Slots r)
same_fields s r h items ends places =
    let old = has_indexes s h in
    roll_indexed r (ends ∙ (old.ends ∙ ap (ends_after 0) (fields_of-items s ∙ ap (map field_of) (sym items)))) (subst (λ (l : List Slot). HasPlaces (map field_name l) r.by_name.items) (sym items) places)
    (λ i slot at. old.inside i slot (ap (λ l. slice_get l i) (sym items) ∙ at))

-- A field with another shape in its place.
abbrev pub anew : Slot → Shape → Slot
anew x shape = roll-Slot (record { name = x.name; number = x.number; shape = shape })

kept_field-anew : (x : Slot) (shape : Shape) → kept_field (anew x shape) ≡ record { name = x.name; number = x.number; shape = kept_shape shape }
kept_field-anew x shape = fold-roll-Slot Kept KeptField KeptBag shape_step slot_step slots_step (record { name = x.name; number = x.number; shape = shape })

pub shape-anew : (x : Slot) (shape : Shape) → (field_of (anew x shape)).shape ≡ shape_of shape
shape-anew x shape = ap (λ (k : KeptField). plain_shape k.shape) (kept_field-anew x shape)

-- It is seen as before where the shapes are seen as one.
pub field-anew : (x : Slot) (shape : Shape) → shape_of shape ≡ shape_of x.shape → field_of (anew x shape) ≡ field_of x
field-anew x shape same =
    let seen : KeptField → model.Field = λ k. record { name = k.name; number = k.number; shape = plain_shape k.shape } in
    ap seen (kept_field-anew x shape) ∙ (ap (λ (s : model.Shape). record { name = x.name; number = x.number; shape = s }) same ∙ sym (ap seen (field_open x)))

pub kept-anew : (x : Slot) (shape : Shape) → IsKept (kept_shape shape) → IsKeptField (anew x shape)
kept-anew x shape = subst IsKept (sym (ap (λ (k : KeptField). k.shape) (kept_field-anew x shape)))

each_indexed : (xs : List Slot) (x : Slot) → ((i : ℕ) (slot : Slot) → slice_get xs i ≡ Some slot → IsKeptField slot) → IsKeptField x → (i : ℕ) (slot : Slot) → slice_get (xs ++ x ∷ []) i ≡ Some slot → IsKeptField slot
each_indexed [] x all own zero slot at = let same : x ≡ slot = cc at in subst IsKeptField same own
each_indexed [] x all own (suc i) slot at = absurd (cc at)
each_indexed (y ∷ ys) x all own zero slot at = all 0 slot at
each_indexed (y ∷ ys) x all own (suc i) slot at = each_indexed ys x (λ k t found. all (suc k) t found) own i slot at

pub pushed_indexes : (s : Slots) (x : Slot) (r : Slots-F Shape Slot Slots) (end : ℕ) → IsIndexed s → IsKeptField x
    → r.items.items ≡ (out-Slots s).items.items ++ x ∷ [] → r.ends.items ≡ (out-Slots s).ends.items ++ end ∷ [] → r.by_name.items ≡ (out-Slots s).by_name.items ++ length (out-Slots s).items.items ∷ []
    → end ≡ capped (length (slots_of (nodes_of s)) + slot_count (field_of x).shape) → IsIndexed (roll-Slots r)
pushed_indexes s x r end h own items ends places counted =
    let old = has_indexes s h in
    let fs = model.fields (nodes_of s) in
    let before = (out-Slots s).items.items in
    let new_fields : map field_of r.items.items ≡ fs ++ field_of x ∷ [] = ap (map field_of) items ∙ (map_push field_of before x ∙ ap (λ l. l ++ field_of x ∷ []) (sym (fields_of-items s))) in
    let end_is : end ≡ capped (0 + length (slots_list fs) + slot_count (field_of x).shape) = counted ∙ ap capped (omega (arith, ap length (slots_of-list (nodes_of s)))) in
    let new_names : map field_name before ++ field_name x ∷ [] ≡ map field_name r.items.items = sym (map_push field_name before x) ∙ ap (map field_name) (sym items) in
    let new_places : (out-Slots s).by_name.items ++ length (map field_name before) ∷ [] ≡ r.by_name.items = ap (λ n. (out-Slots s).by_name.items ++ n ∷ []) (length-map before field_name) ∙ sym places in
    roll_indexed r
    (ends ∙ (ap (λ l. l ++ end ∷ []) old.ends ∙ (ap (λ e. ends_after 0 fs ++ e ∷ []) end_is ∙ (sym (ends_push 0 fs (field_of x)) ∙ ap (ends_after 0) (sym new_fields)))))
    (subst (λ (names : List (List ℕ)). HasPlaces names r.by_name.items) new_names
    (subst (HasPlaces (map field_name before ++ field_name x ∷ [])) new_places (places_push (map field_name before) (out-Slots s).by_name.items (field_name x) old.places)))
    (λ i slot at. each_indexed before x old.inside own i slot (ap (λ l. slice_get l i) (sym items) ∙ at))
