-- The field with a name, and what a path finds in it.
use Rattle.std.proofs.Common.{◌≡◌, ℕ, ◌+◌, ◌<◌, ◌≤◌, List, length, map, get_or, Option, Some, None, refl, sym, ◌∙◌, ap, subst, arith, Fits, w64}
use Rattle.std.specs.Prelude.{◌≢◌}
use Rattle.std.specs.List.{slice_get}
use Rattle.std.specs.Option.{option_map}
use Rattle.std.proofs.lemmas.List.{length-map}
use Rattle.std.proofs.lemmas.Option.{slice_get-map, slice_get_within}
use Rattle.bag_model.specs.declared.TheConstants.{FIELDS_MAX}
use Rattle.bag_model.specs.Shapes as model
use Rattle.bag_model.specs.Slots.{slots_of, slot_count, FindsField}
use Rattle.field_table.specs.Shapes.{IsSplit}
use Rattle.bag_model.specs.Tables.{IsTable}
use Rattle.bag_model.proofs.SlotLaws.{slots_few}
use Rattle.bag_model.proofs.PathLaws.{reached_bound}
use Rattle.field_table.specs.declared.shapes.Slot.{Slot}
use Rattle.field_table.specs.declared.shapes.Slots.{Slots}
use Rattle.field_table.specs.declared.shapes.Shape.TheViews.{out-Slots}
use Rattle.field_table.specs.Tables.{KeptField, IsPlaceOf, IsReady, capped, name}
use Rattle.field_table.specs.Plain.{kept_bag, shape_of, nodes_of, field_name, IsIndexed, IsOrdered}
use Rattle.field_table.proofs.Opened.{names_of-items}
use Rattle.field_table.proofs.Held.{field_open, item_at, item_field}

-- No field has a name that isn't found.
pub other_name : (s : Slots) (own : List ℕ) → IsPlaceOf (map field_name (out-Slots s).items.items) own None → (place : ℕ) (f : model.Field) → slice_get (model.fields (nodes_of s)) place ≡ Some f → f.name ≢ own
other_name s own none place f at same =
    none place (ap (λ l. slice_get l place) (sym (names_of-items s)) ∙ (slice_get-map name (model.fields (nodes_of s)) place ∙ (ap (option_map name) at ∙ ap Some same)))

-- The field at the place of a name.
pub record IsNamed (s : Slots) (own : List ℕ) (place : ℕ) (x : Slot) : Type 0 where
  pub at : slice_get (out-Slots s).items.items place ≡ Some x
  pub field : slice_get (model.fields (nodes_of s)) place ≡ Some (record { name = x.name; number = x.number; shape = shape_of x.shape })
  pub named : x.name ≡ own

pub place_within : (s : Slots) (own : List ℕ) (place : ℕ) → slice_get (map field_name (out-Slots s).items.items) place ≡ Some own → place < length (out-Slots s).items.items
place_within s own place found = omega (arith, slice_get_within (map field_name (out-Slots s).items.items) place own found, length-map (out-Slots s).items.items field_name)

pub named_at : (s : Slots) (own : List ℕ) (place : ℕ) (x : Slot) → slice_get (map field_name (out-Slots s).items.items) place ≡ Some own → x ≡ get_or (out-Slots s).items.items place x → IsNamed s own place x
named_at s own place x found is =
    let at : slice_get (out-Slots s).items.items place ≡ Some x = item_at s place x (place_within s own place found) is in
    let same : Some (field_name x) ≡ Some own = sym (slice_get-map field_name (out-Slots s).items.items place ∙ ap (option_map field_name) at) ∙ found in
    let named : field_name x ≡ own = cc same in
    record { at = at; field = item_field s place x at; named = sym (ap (λ (k : KeptField). k.name) (field_open x)) ∙ named }

pub found_bound : (nodes : model.Nodes) (path : List ℕ) (before : ℕ) (shape : model.Shape) → FindsField nodes path (Some (before, shape)) → before ≤ length (slots_of nodes)
found_bound nodes path before shape found = omega (arith, reached_bound nodes found.0 found.1 before shape found.3)

-- An answer that nothing is there.
pub finds_nothing : {A : Type 0} (f : A → ℕ × model.Shape) (nodes : model.Nodes) (path : List ℕ) (answer : Option A) → answer ≡ None → FindsField nodes path None → FindsField nodes path (option_map f answer)
finds_nothing {A} f nodes path answer is none = subst (λ (o : Option A). FindsField nodes path (option_map f o)) (sym is) none

-- A path with no rest is its first name.
pub whole_path : {A : Type 0} (path own : List ℕ) (f : A → List ℕ) (rest : Option A) → ((x : A) → rest ≡ Some x → ⊥) → IsSplit path own (option_map f rest) → path ≡ own
whole_path path own f None none split = split
whole_path path own f (Some x) none split = absurd (none x refl)

pub fits_sum : (m n : ℕ) → m + n ≤ 32768 → Fits w64 (m + n)
fits_sum m n h = record { fits = omega (arith, h) }

-- The fields of a table are ready for look-ups.
pub ready : (s : Slots) → IsTable (nodes_of s) → IsIndexed s → IsOrdered s → IsReady (kept_bag s)
ready s table indexed ordered = record { fields = table.well_formed; indexed = indexed; in_order = ordered; small = omega (arith, slots_few (nodes_of s), table.small) }

-- The count of slots of a table.
pub count_of : (s : Slots) → IsTable (nodes_of s) → capped (length (slots_of (nodes_of s))) ≡ length (slots_of (nodes_of s))
count_of s table = omega (arith, slots_few (nodes_of s), table.small)

-- The count of the slots of a field that is found.
pub counted : (nodes : model.Nodes) (path : List ℕ) (before : ℕ) (shape : model.Shape) → length (slots_of nodes) ≤ FIELDS_MAX → FindsField nodes path (Some (before, shape)) → capped (slot_count shape) ≡ slot_count shape
counted nodes path before shape small found = omega (arith, small, reached_bound nodes found.0 found.1 before shape found.3)
