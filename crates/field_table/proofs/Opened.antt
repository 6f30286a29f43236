-- What a value of the code is made of, as it is kept.
use Rattle.std.proofs.Common.{◌≡◌, ℕ, zero, suc, List, [], ◌∷◌, ◌++◌, length, map, Some, refl, sym, ◌∙◌, ap, subst}
use Rattle.std.specs.List.{slice_get}
use Rattle.std.specs.Option.{option_map}
use Rattle.std.proofs.lemmas.List.{length-map}
use Rattle.std.proofs.lemmas.Option.{slice_get-map}
use Rattle.bag_model.specs.Shapes as model
use Rattle.bag_model.specs.Slots.{slots_of}
use Rattle.bag_model.proofs.SlotLaws.{slots_of-list}
use Rattle.field_table.specs.declared.shapes.Shape.{Shape}
use Rattle.field_table.specs.declared.shapes.Slot.{Slot}
use Rattle.field_table.specs.declared.shapes.Slots.{Slots}
use Rattle.field_table.specs.declared.shapes.Shape.TheFolds.{fold_out-Slots}
use Rattle.field_table.specs.declared.shapes.Shape.TheViews.{out-Slots, roll-Slots, out-roll-Slots}
use Rattle.field_table.specs.declared.shapes.Shape.TheOpen.{Slots-F}
use Rattle.field_table.specs.Tables.{Kept, KeptField, KeptBag, kept, kept_nodes, ends_of, plain_shape, plain_bag, plain_nodes, capped, start_at, name, ends_after, HasPlaces, IsNameOrder, IsInOrder, IsKept, IsKeptBag, AreKept}
use Rattle.field_table.proofs.Ends.{length-ends, last_end}
use Rattle.field_table.specs.Plain.{shape_step, slot_step, slots_step, kept_field, kept_bag, field_of, nodes_of, field_name, IsIndexed, IsOrdered}

pub open_bag : (s : Slots) → kept_bag s ≡ kept (kept_nodes (map kept_field (out-Slots s).items.items)) (out-Slots s).ends.items (out-Slots s).by_name.items
open_bag s = fold_out-Slots Kept KeptField KeptBag shape_step slot_step slots_step s

abbrev pub plain_field : KeptField → model.Field
plain_field field = record { name = field.name; number = field.number; shape = plain_shape field.shape }

pub plain_fields : (ks : List KeptField) → model.fields (plain_nodes (kept_nodes ks)) ≡ map plain_field ks
plain_fields [] = refl
plain_fields (k ∷ ks) = ap (λ l. plain_field k ∷ l) (plain_fields ks)

mapped : (items : List Slot) → map plain_field (map kept_field items) ≡ map field_of items
mapped [] = refl
mapped (x ∷ xs) = ap (λ l. field_of x ∷ l) (mapped xs)

-- The plain fields of a bag are those of its items.
pub fields_of-items : (s : Slots) → model.fields (nodes_of s) ≡ map field_of (out-Slots s).items.items
fields_of-items s = ap (λ b. model.fields (plain_bag b)) (open_bag s) ∙ plain_fields (map kept_field (out-Slots s).items.items) ∙ mapped (out-Slots s).items.items

pub length_fields : (s : Slots) → length (model.fields (nodes_of s)) ≡ length (out-Slots s).items.items
length_fields s = ap length (fields_of-items s) ∙ length-map (out-Slots s).items.items field_of

pub get_field : (s : Slots) (i : ℕ) → slice_get (model.fields (nodes_of s)) i ≡ option_map field_of (slice_get (out-Slots s).items.items i)
get_field s i = ap (λ l. slice_get l i) (fields_of-items s) ∙ slice_get-map field_of (out-Slots s).items.items i

pub open_ends : (s : Slots) → ends_of (kept_bag s) ≡ (out-Slots s).ends.items
open_ends s = ap ends_of (open_bag s)

names_mapped : (items : List Slot) → map name (map field_of items) ≡ map field_name items
names_mapped [] = refl
names_mapped (x ∷ xs) = ap (λ l. field_name x ∷ l) (names_mapped xs)

-- The names of the items.
pub names_of-items : (s : Slots) → map name (model.fields (nodes_of s)) ≡ map field_name (out-Slots s).items.items
names_of-items s = ap (map name) (fields_of-items s) ∙ names_mapped (out-Slots s).items.items

-- The indexes in the shape of the field are right and in order.
abbrev pub IsKeptField : Slot → Type 0
IsKeptField slot = IsKept (kept_field slot).shape

are_kept : (items : List Slot) (i : ℕ) (slot : Slot) → AreKept (kept_nodes (map kept_field items)) → slice_get items i ≡ Some slot → IsKeptField slot
are_kept [] i slot h at = absurd (cc at)
are_kept (x ∷ xs) zero slot h at = let same : x ≡ slot = cc at in subst IsKeptField same h.0
are_kept (x ∷ xs) (suc i) slot h at = are_kept xs i slot h.1 at

-- What it says that the indexes are right.
pub record HasIndexes (s : Slots) : Type 0 where
  pub ends : (out-Slots s).ends.items ≡ ends_after 0 (model.fields (nodes_of s))
  pub places : HasPlaces (map field_name (out-Slots s).items.items) (out-Slots s).by_name.items
  pub inside : (i : ℕ) (slot : Slot) → slice_get (out-Slots s).items.items i ≡ Some slot → IsKeptField slot

plain_again : (s : Slots) → model.fields (plain_nodes (kept_nodes (map kept_field (out-Slots s).items.items))) ≡ model.fields (nodes_of s)
plain_again s = ap (λ b. model.fields (plain_bag b)) (sym (open_bag s))

names_again : (s : Slots) → map name (model.fields (plain_nodes (kept_nodes (map kept_field (out-Slots s).items.items)))) ≡ map field_name (out-Slots s).items.items
names_again s = ap (map name) (plain_again s) ∙ names_of-items s

-- What it says that the index by name is in order.
pub is_ordered : (s : Slots) → IsOrdered s → IsNameOrder (map field_name (out-Slots s).items.items) (out-Slots s).by_name.items
is_ordered s h = subst (λ (names : List (List ℕ)). IsNameOrder names (out-Slots s).by_name.items) (names_again s) (subst IsInOrder (open_bag s) h)

pub are_ordered : (s : Slots) → IsNameOrder (map field_name (out-Slots s).items.items) (out-Slots s).by_name.items → IsOrdered s
are_ordered s h = subst IsInOrder (sym (open_bag s)) (subst (λ (names : List (List ℕ)). IsNameOrder names (out-Slots s).by_name.items) (sym (names_again s)) h)

pub has_indexes : (s : Slots) → IsIndexed s → HasIndexes s
has_indexes s h =
    let o = subst IsKeptBag (open_bag s) h in
    record {
      ends = o.0 ∙ ap (ends_after 0) (plain_again s);
      places = subst (λ (names : List (List ℕ)). HasPlaces names (out-Slots s).by_name.items) (names_again s) o.1;
      inside = λ i slot at. are_kept (out-Slots s).items.items i slot o.2 at;
    }

-- The last end is the count of slots.
pub count_is : (s : Slots) → IsIndexed s → start_at (ends_of (kept_bag s)) (length (out-Slots s).ends.items) ≡ capped (length (slots_of (nodes_of s)))
count_is s h =
    let fs = model.fields (nodes_of s) in
    let counted : start_at (ends_after 0 fs) (length (ends_after 0 fs)) ≡ capped (length (slots_of (nodes_of s))) =
    ap (start_at (ends_after 0 fs)) (length-ends 0 fs) ∙ (last_end fs ∙ ap capped (ap length (sym (slots_of-list (nodes_of s)))))
    in
    ap (λ ends. start_at ends (length (out-Slots s).ends.items)) (open_ends s)
    ∙ subst (λ (ends : List ℕ). start_at ends (length ends) ≡ capped (length (slots_of (nodes_of s)))) (sym (has_indexes s h).ends) counted

all_kept : (items : List Slot) → ((i : ℕ) (slot : Slot) → slice_get items i ≡ Some slot → IsKeptField slot) → AreKept (kept_nodes (map kept_field items))
all_kept [] h = tt
all_kept (x ∷ xs) h = (h 0 x refl, all_kept xs (λ i slot at. h (suc i) slot at))

-- And the other way round.
pub are_indexed : (s : Slots) → HasIndexes s → IsIndexed s
are_indexed s h =
    subst IsKeptBag (sym (open_bag s)) (
      h.ends ∙ ap (ends_after 0) (sym (plain_again s)),
      subst (λ (names : List (List ℕ)). HasPlaces names (out-Slots s).by_name.items) (sym (names_again s)) h.places,
      all_kept (out-Slots s).items.items h.inside,
    )

-- The plain fields of a bag that is put together.
pub fields_of-rolled : (r : Slots-F Shape Slot Slots) → model.fields (nodes_of (roll-Slots r)) ≡ map field_of r.items.items
fields_of-rolled r = fields_of-items (roll-Slots r) ∙ ap (λ (o : Slots-F Shape Slot Slots). map field_of o.items.items) (out-roll-Slots r)

pub map_push : {A B : Type 0} (f : A → B) (xs : List A) (x : A) → map f (xs ++ x ∷ []) ≡ map f xs ++ f x ∷ []
map_push f [] x = refl
map_push f (y ∷ ys) x = ap (λ l. f y ∷ l) (map_push f ys x)
