use Rattle.std.proofs.Common.{◌≡◌, ℕ, ◌+◌, ◌++◌, Bor, List, ◌∷◌, length, map, Option, Some, None, sym, ◌∙◌, ap, subst, arith}
use Rattle.std.specs.List.{slice_get}
use Rattle.std.specs.Option.{option_map}
use Rattle.bag_model.specs.Shapes as model
use Rattle.bag_model.specs.Slots.{FindsField}
use Rattle.field_table.specs.Shapes.{IsSplit}
use Rattle.field_table.proofs.PathFinding.{finds_none, finds_only, finds_own, finds_inside, nothing_inside, nothing_in_bag, only_there, own_alone, inside_alone}
use Rattle.bag_model.proofs.SlotLaws.{starts-bound, slots_of-list}
use Rattle.field_table.specs.declared.shapes.Shape.TheViews.{out-Slots}
use Rattle.field_table.specs.declared.shapes.Slot.{Slot}
use Rattle.field_table.specs.Tables.{plain_shape, KeptField, IsKept, IsNameOrder, IsPlaceOf}
use Rattle.field_table.specs.Plain.{nodes_of, field_name, shape_of}
use Rattle.field_table.proofs.Opened.{length_fields, has_indexes, is_ordered}
use Rattle.field_table.proofs.Held.{inner_fewer, inner_ready, no_bag, shape_bag, field_open}
use Rattle.field_table.proofs.Found.{other_name, named_at, place_within, found_bound, finds_nothing, whole_path, fits_sum}
use Rattle.field_table.proofs.shapes.Slots.+find.Goals as goal

pub place_of-requires : goal.place_of-requires
place_of-requires t c =
    let s = c.args.self.now in
    subst (λ (items : List Slot). IsNameOrder (map field_name items) c.deref-2.result.now) (sym c.deref.ensures.value)
    (subst (λ (places : List ℕ). IsNameOrder (map field_name (out-Slots s).items.items) places) (sym c.deref-2.ensures.value) (is_ordered s c.requires.1.1.in_order))

pub returns-in_err-place-clause-found : goal.returns-in_err-place-clause-found
returns-in_err-place-clause-found t c =
    let s = c.args.self.now in
    let own = c.split_name.result.0.now in
    let none : IsPlaceOf (map field_name (out-Slots s).items.items) own None =
    subst (λ (items : List Slot). IsPlaceOf (map field_name items) own None) c.deref.ensures.value
    (subst (λ (bytes : List ℕ). IsPlaceOf (map field_name c.deref.result.now) bytes None) c.as_bytes.ensures.value c.in_err-place.ensures)
    in
    finds_nothing (λ found. (found.0, shape_of found.1.now)) (nodes_of s) c.args.path.now c.from_residual.result c.from_residual.ensures
    (finds_none (nodes_of s) c.requires.1.1.fields c.args.path.now own _ c.split_name.ensures.name c.split_name.ensures.split (other_name s own none))

pub slots_before-before-requires : goal.slots_before-before-requires
slots_before-before-requires t c =
    let s = c.args.self.now in
    let found : slice_get (map field_name (out-Slots s).items.items) c.in_ok-place.place ≡ Some c.as_bytes.result.now =
    subst (λ (items : List Slot). slice_get (map field_name items) c.in_ok-place.place ≡ Some c.as_bytes.result.now) c.deref.ensures.value c.in_ok-place.ensures
    in
    record { ready = c.requires.1.1; place = omega (arith, place_within s c.as_bytes.result.now c.in_ok-place.place found, length_fields s) }

pub index-requires : goal.index-requires
index-requires t c =
    let s = c.args.self.now in
    let found : slice_get (map field_name (out-Slots s).items.items) c.in_ok-place.place ≡ Some c.as_bytes.result.now =
    subst (λ (items : List Slot). slice_get (map field_name items) c.in_ok-place.place ≡ Some c.as_bytes.result.now) c.deref.ensures.value c.in_ok-place.ensures
    in
    omega (arith, place_within s c.as_bytes.result.now c.in_ok-place.place found, (out-Slots s).items.ok.0)

pub returns-in_default-clause-found : goal.returns-in_default-clause-found
returns-in_default-clause-found t c =
    let s = c.args.self.now in
    let x = c.index.result.now in
    let place = c.in_ok-place.place in
    let own = c.split_name.result.0.now in
    let found : slice_get (map field_name (out-Slots s).items.items) place ≡ Some own =
    subst (λ (items : List Slot). slice_get (map field_name items) place ≡ Some own) c.deref.ensures.value (c.in_ok-place.ensures ∙ ap Some c.as_bytes.ensures.value)
    in
    let named = named_at s own place x found c.index.ensures in
    let start = c.slots_before-before.ensures in
    let whole : c.args.path.now ≡ own = whole_path c.args.path.now own (λ rest. rest.now) c.split_name.result.1 c.in_default.not-Some c.split_name.ensures.split in
    subst (λ (n : ℕ). FindsField (nodes_of s) c.args.path.now (Some (n, shape_of x.shape))) (sym start)
    (finds_own (nodes_of s) place (record { name = x.name; number = x.number; shape = shape_of x.shape }) c.args.path.now own named.field named.named whole)

pub find-requires : goal.find-requires
find-requires t c =
    let s = c.args.self.now in
    let x = c.index.result.now in
    let place = c.in_ok-place.place in
    let own = c.split_name.result.0.now in
    let found : slice_get (map field_name (out-Slots s).items.items) place ≡ Some own =
    subst (λ (items : List Slot). slice_get (map field_name items) place ≡ Some own) c.deref.ensures.value (c.in_ok-place.ensures ∙ ap Some c.as_bytes.ensures.value)
    in
    let named = named_at s own place x found c.index.ensures in
    (omega (arith, c.requires.1.0, inner_fewer s place x c.in-Bag.inner named.at c.in-Bag.is), inner_ready s place x c.in-Bag.inner c.requires.1.1 named.at c.in-Bag.is)

pub returns-in_err-behind-clause-found : goal.returns-in_err-behind-clause-found
returns-in_err-behind-clause-found t c =
    let s = c.args.self.now in
    let x = c.index.result.now in
    let place = c.in_ok-place.place in
    let own = c.split_name.result.0.now in
    let found : slice_get (map field_name (out-Slots s).items.items) place ≡ Some own =
    subst (λ (items : List Slot). slice_get (map field_name items) place ≡ Some own) c.deref.ensures.value (c.in_ok-place.ensures ∙ ap Some c.as_bytes.ensures.value)
    in
    let named = named_at s own place x found c.index.ensures in
    let plain_is : shape_of x.shape ≡ model.Shape.Bag (nodes_of c.in-Bag.inner) = ap shape_of c.in-Bag.is ∙ ap plain_shape (shape_bag c.in-Bag.inner) in
    finds_nothing (λ found. (found.0, shape_of found.1.now)) (nodes_of s) c.args.path.now c.from_residual-in_err-behind.result c.from_residual-in_err-behind.ensures
    (finds_only (nodes_of s) c.requires.1.1.fields c.args.path.now own (Some c.in-Some.rest.now) c.split_name.ensures.name
    (subst (λ (rest : Option (Bor (List ℕ))). IsSplit c.args.path.now own (option_map (λ r. r.now) rest)) c.in-Some.is c.split_name.ensures.split)
    place (record { name = x.name; number = x.number; shape = shape_of x.shape }) named.field named.named
    (nothing_in_bag (nodes_of c.in-Bag.inner) (shape_of x.shape) plain_is c.in-Some.rest.now c.in_err-behind.ensures.found))

pub overflow_add-result : goal.overflow_add-result
overflow_add-result t c =
    let s = c.args.self.now in
    let x = c.index.result.now in
    let place = c.in_ok-place.place in
    let own = c.split_name.result.0.now in
    let found : slice_get (map field_name (out-Slots s).items.items) place ≡ Some own =
    subst (λ (items : List Slot). slice_get (map field_name items) place ≡ Some own) c.deref.ensures.value (c.in_ok-place.ensures ∙ ap Some c.as_bytes.ensures.value)
    in
    let named = named_at s own place x found c.index.ensures in
    let start = c.slots_before-before.ensures in
    let inside = inner_ready s place x c.in-Bag.inner c.requires.1.1 named.at c.in-Bag.is in
    let behind = found_bound (nodes_of c.in-Bag.inner) c.in-Some.rest.now c.in_ok-behind.behind (shape_of c.in_ok-behind.shape.now) c.in_ok-behind.ensures.found in
    fits_sum c.slots_before-before.result c.in_ok-behind.behind
    (omega (arith, start, starts-bound (model.fields (nodes_of s)) place, ap length (slots_of-list (nodes_of s)), c.requires.1.1.small, behind, inside.small))

pub returns-in_ok-behind-clause-found : goal.returns-in_ok-behind-clause-found
returns-in_ok-behind-clause-found t c =
    let s = c.args.self.now in
    let x = c.index.result.now in
    let place = c.in_ok-place.place in
    let own = c.split_name.result.0.now in
    let found : slice_get (map field_name (out-Slots s).items.items) place ≡ Some own =
    subst (λ (items : List Slot). slice_get (map field_name items) place ≡ Some own) c.deref.ensures.value (c.in_ok-place.ensures ∙ ap Some c.as_bytes.ensures.value)
    in
    let named = named_at s own place x found c.index.ensures in
    let start = c.slots_before-before.ensures in
    let plain_is : shape_of x.shape ≡ model.Shape.Bag (nodes_of c.in-Bag.inner) = ap shape_of c.in-Bag.is ∙ ap plain_shape (shape_bag c.in-Bag.inner) in
    let split : c.args.path.now ≡ own ++ 46 ∷ c.in-Some.rest.now =
    subst (λ (rest : Option (Bor (List ℕ))). IsSplit c.args.path.now own (option_map (λ r. r.now) rest)) c.in-Some.is c.split_name.ensures.split
    in
    subst (λ (n : ℕ). FindsField (nodes_of s) c.args.path.now (Some (n + c.in_ok-behind.behind, shape_of c.in_ok-behind.shape.now))) (sym start)
    (finds_inside (nodes_of s) (nodes_of c.in-Bag.inner) place (record { name = x.name; number = x.number; shape = shape_of x.shape }) c.args.path.now own c.in-Some.rest.now c.in_ok-behind.behind (shape_of c.in_ok-behind.shape.now)
    named.field named.named plain_is split c.in_ok-behind.ensures.found)

pub returns-in_default-shape-clause-found : goal.returns-in_default-shape-clause-found
returns-in_default-shape-clause-found t c =
    let s = c.args.self.now in
    let x = c.index.result.now in
    let place = c.in_ok-place.place in
    let own = c.split_name.result.0.now in
    let found : slice_get (map field_name (out-Slots s).items.items) place ≡ Some own =
    subst (λ (items : List Slot). slice_get (map field_name items) place ≡ Some own) c.deref.ensures.value (c.in_ok-place.ensures ∙ ap Some c.as_bytes.ensures.value)
    in
    let named = named_at s own place x found c.index.ensures in
    finds_only (nodes_of s) c.requires.1.1.fields c.args.path.now own (Some c.in-Some.rest.now) c.split_name.ensures.name
    (subst (λ (rest : Option (Bor (List ℕ))). IsSplit c.args.path.now own (option_map (λ r. r.now) rest)) c.in-Some.is c.split_name.ensures.split)
    place (record { name = x.name; number = x.number; shape = shape_of x.shape }) named.field named.named
    (nothing_inside (shape_of x.shape) (no_bag x.shape c.in_default-shape.not-Bag) c.in-Some.rest.now)

pub returns-in_default-clause-only : goal.returns-in_default-clause-only
returns-in_default-clause-only t c own_name names before shape reached dots =
    let s = c.args.self.now in
    let x = c.index.result.now in
    let place = c.in_ok-place.place in
    let own = c.split_name.result.0.now in
    let found : slice_get (map field_name (out-Slots s).items.items) place ≡ Some own =
    subst (λ (items : List Slot). slice_get (map field_name items) place ≡ Some own) c.deref.ensures.value (c.in_ok-place.ensures ∙ ap Some c.as_bytes.ensures.value)
    in
    let named = named_at s own place x found c.index.ensures in
    let whole : c.args.path.now ≡ own = whole_path c.args.path.now own (λ rest. rest.now) c.split_name.result.1 c.in_default.not-Some c.split_name.ensures.split in
    let field : model.Field = record { name = x.name; number = x.number; shape = shape_of x.shape } in
    let r = only_there (nodes_of s) c.requires.1.1.fields c.args.path.now own None c.split_name.ensures.name whole place field named.field named.named own_name names before shape reached dots in
    own_alone (shape_of x.shape) names r.1.0 shape r.0 r.1.1

pub returns-in_ok-behind-clause-only : goal.returns-in_ok-behind-clause-only
returns-in_ok-behind-clause-only t c own_name names before shape reached dots =
    let s = c.args.self.now in
    let x = c.index.result.now in
    let place = c.in_ok-place.place in
    let own = c.split_name.result.0.now in
    let found : slice_get (map field_name (out-Slots s).items.items) place ≡ Some own =
    subst (λ (items : List Slot). slice_get (map field_name items) place ≡ Some own) c.deref.ensures.value (c.in_ok-place.ensures ∙ ap Some c.as_bytes.ensures.value)
    in
    let named = named_at s own place x found c.index.ensures in
    let plain_is : shape_of x.shape ≡ model.Shape.Bag (nodes_of c.in-Bag.inner) = ap shape_of c.in-Bag.is ∙ ap plain_shape (shape_bag c.in-Bag.inner) in
    let split : c.args.path.now ≡ own ++ 46 ∷ c.in-Some.rest.now =
    subst (λ (rest : Option (Bor (List ℕ))). IsSplit c.args.path.now own (option_map (λ r. r.now) rest)) c.in-Some.is c.split_name.ensures.split
    in
    let field : model.Field = record { name = x.name; number = x.number; shape = shape_of x.shape } in
    let r = only_there (nodes_of s) c.requires.1.1.fields c.args.path.now own (Some c.in-Some.rest.now) c.split_name.ensures.name split place field named.field named.named own_name names before shape reached dots in
    inside_alone (nodes_of c.in-Bag.inner) (shape_of x.shape) plain_is c.in-Some.rest.now (shape_of c.in_ok-behind.shape.now) c.in_ok-behind.ensures.only names r.1.0 shape r.0 r.1.1

pub returns-in_default-clause-kept : goal.returns-in_default-clause-kept
returns-in_default-clause-kept t c =
    let s = c.args.self.now in
    let x = c.index.result.now in
    let place = c.in_ok-place.place in
    let own = c.split_name.result.0.now in
    let found : slice_get (map field_name (out-Slots s).items.items) place ≡ Some own =
    subst (λ (items : List Slot). slice_get (map field_name items) place ≡ Some own) c.deref.ensures.value (c.in_ok-place.ensures ∙ ap Some c.as_bytes.ensures.value)
    in
    subst IsKept (ap (λ (k : KeptField). k.shape) (field_open x)) ((has_indexes s c.requires.1.1.indexed).inside place x (named_at s own place x found c.index.ensures).at)
