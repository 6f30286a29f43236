-- The numbers of fields, which rise.
use Rattle.std.proofs.Common.{◌≡◌, ◌⊎◌, inl, inr, ℕ, ◌<◌, ◌≤◌, zero, suc, List, length, get_or, Option, Some, None, refl, sym, ◌∙◌, ap, subst, arith}
use Rattle.std.specs.Prelude.{◌≢◌}
use Rattle.std.specs.List.{slice_get}
use Rattle.std.specs.Option.{option_map}
use Rattle.std.specs.List.Sorted.{IsNonDecreasingBy, IsPartitionPoint}
use Rattle.std.proofs.lemmas.Bool.{cases_lt}
use Rattle.std.proofs.lemmas.Option.{slice_get-get_or, slice_get_within}
use Rattle.bag_model.specs.Shapes as model
use Rattle.bag_model.specs.Tables.{AreFields}
use Rattle.bag_model.proofs.PathLaws.{all_there}
use Rattle.field_table.specs.declared.shapes.Slot.{Slot}
use Rattle.field_table.specs.declared.shapes.Slots.{Slots}
use Rattle.field_table.specs.declared.shapes.Shape.TheViews.{out-Slots}
use Rattle.field_table.specs.Plain.{nodes_of, shape_of, field_of, field_number}
use Rattle.field_table.proofs.Opened.{length_fields, get_field}
use Rattle.field_table.proofs.Held.{item_field}

-- Later fields have greater numbers.
pub numbers_rise : (nodes : model.Nodes) (i j : ℕ) (f g : model.Field) → AreFields nodes → i < j → slice_get (model.fields nodes) i ≡ Some f → slice_get (model.fields nodes) j ≡ Some g → f.number < g.number
numbers_rise model.Nodes.no_node i j f g h l at also = absurd (cc at)
numbers_rise (model.Nodes.node name number shape nodes) i zero f g h l at also = absurd (omega arith)
numbers_rise (model.Nodes.node name number shape nodes) zero (suc j) f g h l at also =
    let same : record { name = name; number = number; shape = shape } ≡ f = cc at in
    subst (λ (k : model.Field). k.number < g.number) same (all_there (λ (other : model.Field). (number < other.number) × (name ≢ other.name)) (model.fields nodes) j g h.3 also).0
numbers_rise (model.Nodes.node name number shape nodes) (suc i) (suc j) f g h l at also = numbers_rise nodes i j f g h.4 (omega arith) at also

-- A field of the code, seen as a plain one.
abbrev pub seen : Slot → model.Field
seen x = record { name = x.name; number = x.number; shape = shape_of x.shape }

seen_at : (s : Slots) (i : ℕ) (d : Slot) → i < length (out-Slots s).items.items → slice_get (model.fields (nodes_of s)) i ≡ Some (seen (get_or (out-Slots s).items.items i d))
seen_at s i d within = item_field s i (get_or (out-Slots s).items.items i d) (slice_get-get_or (out-Slots s).items.items i d within)

pub items_rise : (s : Slots) → AreFields (nodes_of s) → IsNonDecreasingBy field_number (out-Slots s).items.items
items_rise s are i j d upto within = by (cases_lt i j)
  where
    at : ℕ → Slot
    at k = get_or (out-Slots s).items.items k d

    by : (i < j) ⊎ (j ≤ i) → field_number (get_or (out-Slots s).items.items i d) ≤ field_number (get_or (out-Slots s).items.items j d)
    by (inl less) = omega (arith, numbers_rise (nodes_of s) i j (seen (at i)) (seen (at j)) are less (seen_at s i d (omega (arith, less, within))) (seen_at s j d within))
    by (inr more) = let same : i ≡ j = omega (arith, upto, more) in omega (arith, ap (λ k. field_number (get_or (out-Slots s).items.items k d)) same)

-- A field with the number is at the point between the lesser numbers and the others, if anywhere.
at_point : (s : Slots) (number place i : ℕ) (f : model.Field) → AreFields (nodes_of s)
    → IsPartitionPoint (λ item. field_number item < number) (λ item. number ≤ field_number item) (out-Slots s).items.items place
    → slice_get (model.fields (nodes_of s)) i ≡ Some f → f.number ≡ number → i ≡ place
at_point s number place i f are point at is = there (slice_get (out-Slots s).items.items i) refl
  where
    within : i < length (out-Slots s).items.items
    within = omega (arith, slice_get_within (model.fields (nodes_of s)) i f at, length_fields s)

    by : (d : Slot) → seen (get_or (out-Slots s).items.items i d) ≡ f → (i < place) ⊎ (place ≤ i) → i ≡ place
    by d same (inl less) = absurd (omega (arith, point.0 i d (omega arith) less, is, ap (λ (g : model.Field). g.number) same))
    by d same (inr more) = later (cases_lt place i)
      where
        later : (place < i) ⊎ (i ≤ place) → i ≡ place
        later (inr upto) = omega (arith, more, upto)
        later (inl less) =
            absurd (omega (
              arith,
              is,
              point.1 place d (omega arith) (omega (arith, less, within)),
              numbers_rise (nodes_of s) place i (seen (get_or (out-Slots s).items.items place d)) f are less (seen_at s place d (omega (arith, less, within))) at,
            ))

    there : (o : Option Slot) → slice_get (out-Slots s).items.items i ≡ o → i ≡ place
    there None e = absurd (let none : Some f ≡ None = sym at ∙ (get_field s i ∙ ap (option_map field_of) e) in cc none)
    there (Some x) e =
        let same : Some (seen (get_or (out-Slots s).items.items i x)) ≡ Some f = sym (seen_at s i x within) ∙ at in
        by x (let s : seen (get_or (out-Slots s).items.items i x) ≡ f = cc same in s) (cases_lt i place)

-- The same by what a search among the items says.
pub only_there : (s : Slots) (items : List Slot) (number place i : ℕ) (f : model.Field) → items ≡ (out-Slots s).items.items → AreFields (nodes_of s)
    → (IsNonDecreasingBy field_number items → IsPartitionPoint (λ item. field_number item < number) (λ item. number ≤ field_number item) items place)
    → slice_get (model.fields (nodes_of s)) i ≡ Some f → f.number ≡ number → i ≡ place
only_there s items number place i f same are point =
    at_point s number place i f are
    (subst (λ (l : List Slot). IsPartitionPoint (λ item. field_number item < number) (λ item. number ≤ field_number item) l place) same
    (point (subst (IsNonDecreasingBy field_number) (sym same) (items_rise s are))))
