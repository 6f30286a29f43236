-- What is superseded in the slots of a field that a view knows.
use Rattle.std.proofs.Common.{◌≡◌, ◌⊎◌, inl, inr, ◌↔◌, ℕ, zero, suc, ◌+◌, List, [], ◌∷◌, ◌++◌, length, Some, refl, sym, ap, ◌∙◌, subst, arith, append_assoc}
use Rattle.std.specs.Prelude.{◌≢◌}
use Rattle.std.specs.List.{slice_get}
use Rattle.std.specs.Option.{option_map}
use Rattle.std.proofs.lemmas.List.{append-nil}
use Rattle.context_model.specs.Atoms.{Atom}
use Rattle.context_model.specs.Ended.{field_path_from}
use Rattle.context_model.specs.Orders.{Path, IsIn}
use Rattle.context_model.specs.WithoutData.{AreDataPlaces}
use Rattle.context_model.proofs.PlacesOf.{last_is}
use Rattle.bag_model.specs.NormalForm.{IsSupersededAt}
use Rattle.bag_model.specs.Readings.{PathsOf}
use Rattle.bag_model.specs.Shapes.{Shape, Nodes, Field, fields, Bag, no_node, node}
use Rattle.bag_model.specs.Slots.{SlotAt, slots_of, slots_in, starts, within}
use Rattle.bag_model.specs.Views.{View, Knows}
use Rattle.bag_model.proofs.DataPlaces.{HoldsData-below}
use Rattle.bag_model.proofs.SlotLaws.{slots_of-list, slot_there}
use Rattle.bag_model.proofs.SlotNumbers.{IsInFirst, IsLater, first_or_later}
use Rattle.bag_model.proofs.SlotsBelow.{slot_path, slot_path-within}
use Rattle.bag_walks.proofs.Stops.{atom_there}
use Rattle.field_table.proofs.Held.{own_slot}
use Rattle.std.proofs.lemmas.Option.{slice_get_within}
use Rattle.bag_normal.specs.Known.{GivesWayAt, IsSupersededIn, IsKnownSuperseded}
use Rattle.bag_normal.proofs.Below.{gives_way_below}
use Rattle.bag_normal.proofs.FieldHeaders.{HoldsAtField}

-- What is superseded in a field's slots is below the field's header.
pub known_below : (view : View) (before : ℕ) (shape : Shape) (list : List Atom) (q : Path) (h : Atom) (place : ℕ) → IsKnownSuperseded view before shape list (q ++ h ∷ []) place → PathsOf list (q ++ h ∷ [])
known_below view before shape list q h place s =
    let rest = field_path_from (length (q ++ h ∷ [])) s.at.numbers in
    let (r, e) = HoldsData-below s.at.shape ((q ++ h ∷ []) ++ rest) s.holds.keep s.holds.path s.holds.holds in
    gives_way_below s.holds.keep list q (rest ++ r) h place
    (subst (λ p. GivesWayAt s.holds.keep list p place) (e ∙ append_assoc (q ++ h ∷ []) rest r ∙ append_assoc q (h ∷ []) (rest ++ r)) s.holds.way)

-- ---- a field that is a slot

only_one : (x : SlotAt) (i : ℕ) (y : SlotAt) → slice_get (x ∷ []) i ≡ Some y → (i ≡ 0) × (x ≡ y)
only_one x zero y e = (refl, cc e)
only_one x (suc i) y e = absurd (cc e)

module _ (view : View) (before : ℕ) (shape : Shape) (list : List Atom) (q : Path) (no_bag : (nodes : Nodes) → shape ≢ Bag nodes) where
  -- Its only slot is the field itself.
  its_slot : (s : (place : ℕ) × IsKnownSuperseded view before shape list q place) → Knows view before × IsSupersededIn shape list q s.0
  its_slot (place, s) =
      let (first, own) = only_one (record { names = []; numbers = []; shape = shape }) s.slot s.at (ap (λ l. slice_get l s.slot) (sym (own_slot shape no_bag)) ∙ s.there) in
      let none : before + s.slot ≡ before = omega (arith, first) in (
        subst (Knows view) none s.knows,
        subst (λ p. IsSupersededIn shape list p place) (append-nil q)
            (subst (λ (x : SlotAt). IsSupersededIn x.shape list (q ++ field_path_from (length q) x.numbers) place) (sym own) s.holds),
      )

  pub known_slot : Knows view before → (place : ℕ) → IsSupersededIn shape list q place ↔ IsKnownSuperseded view before shape list q place
  known_slot knows place = (
    λ s. record {
      slot = 0;
      at = record { names = []; numbers = []; shape = shape };
      there = ap (λ l. slice_get l 0) (own_slot shape no_bag);
      knows = subst (Knows view) (let e : before ≡ before + 0 = omega arith in e) knows;
      holds = subst (λ p. IsSupersededIn shape list p place) (sym (append-nil q)) s;
    },
    λ s. (its_slot (place, s)).1,
  )

  pub unknown_slot : (Knows view before → ⊥) → (place : ℕ) → IsKnownSuperseded view before shape list q place → ⊥
  unknown_slot other place s = other (its_slot (place, s)).0

-- ---- the slots of a bag

-- A slot of a bag is one of the slots of a field.
record IsSlotOfField (nodes : Nodes) (k : ℕ) (slot : SlotAt) : Type 0 where
  at : ℕ
  field : Field
  there : slice_get (fields nodes) at ≡ Some field
  own : ℕ
  counted : k ≡ starts (fields nodes) at + own
  inner : SlotAt
  inside : slice_get (slots_in field.shape) own ≡ Some inner
  is : within field.name field.number inner ≡ slot

slot_of_field : (nodes : Nodes) (k : ℕ) (slot : SlotAt) → slice_get (slots_of nodes) k ≡ Some slot → IsSlotOfField nodes k slot
slot_of_field no_node k slot e = absurd (cc e)
slot_of_field (node name number own nodes) k slot e = by (first_or_later name number own nodes k slot e) (λ n found. slot_of_field nodes n slot found)
  where
    by : IsInFirst name number own k slot ⊎ IsLater own nodes k slot → ((n : ℕ) → slice_get (slots_of nodes) n ≡ Some slot → IsSlotOfField nodes n slot) → IsSlotOfField (node name number own nodes) k slot
    by (inl f) later = record {
      at = 0;
      field = record { name = name; number = number; shape = own };
      there = refl;
      own = k;
      counted = omega arith;
      inner = f.inner;
      inside = f.at;
      is = f.is;
    }
    by (inr l) later = let s = later l.behind l.at in record {
      at = suc s.at;
      field = s.field;
      there = s.there;
      own = s.own;
      counted = omega (arith, l.counted, s.counted);
      inner = s.inner;
      inside = s.inside;
      is = s.is;
    }

-- What is superseded in the slots of a field of a bag, before whose first slot are `before` slots.
abbrev pub KnownInField : View → ℕ → Nodes → List Atom → ℕ → Field → Path → ℕ → Type 0
KnownInField view before nodes list at field p place = IsKnownSuperseded view (before + starts (fields nodes) at) field.shape list p place

pub known_bag : (view : View) (before : ℕ) (nodes : Nodes) (list : List Atom) (q : Path) (place : ℕ)
    → HoldsAtField nodes (KnownInField view before nodes list) q place ↔ IsKnownSuperseded view before (Bag nodes) list q place
known_bag view before nodes list q place = (there, back)
  where
    there : HoldsAtField nodes (KnownInField view before nodes list) q place → IsKnownSuperseded view before (Bag nodes) list q place
    there h =
        let s = h.holds in
        let slot = within h.field.name h.field.number s.at in
        record {
          slot = starts (fields nodes) h.at + s.slot;
          at = slot;
          there =
              ap (λ l. slice_get l (starts (fields nodes) h.at + s.slot)) (slots_of-list nodes)
              ∙ slot_there (fields nodes) h.at h.field (starts (fields nodes) h.at + s.slot) s.slot h.there refl (slice_get_within (slots_in h.field.shape) s.slot s.at s.there)
              ∙ ap (option_map (within h.field.name h.field.number)) s.there;
          knows = subst (Knows view) (let e : (before + starts (fields nodes) h.at) + s.slot ≡ before + (starts (fields nodes) h.at + s.slot) = omega arith in e) s.knows;
          holds = subst (λ p. IsSupersededIn s.at.shape list p place) (sym (slot_path-within q h.field.name h.field.number s.at)) s.holds;
        }

    back : IsKnownSuperseded view before (Bag nodes) list q place → HoldsAtField nodes (KnownInField view before nodes list) q place
    back s =
        let f = slot_of_field nodes s.slot s.at s.there in
        let here : IsSupersededIn f.inner.shape list (slot_path q (within f.field.name f.field.number f.inner)) place =
        subst (λ (x : SlotAt). IsSupersededIn x.shape list (slot_path q x) place) (sym f.is) s.holds in
        record {
          at = f.at;
          field = f.field;
          there = f.there;
          holds = record {
            slot = f.own;
            at = f.inner;
            there = f.inside;
            knows = subst (Knows view) (let e : before + s.slot ≡ (before + starts (fields nodes) f.at) + f.own = omega (arith, f.counted) in e) s.knows;
            holds = subst (λ p. IsSupersededIn f.inner.shape list p place) (slot_path-within q f.field.name f.field.number f.inner) here;
          };
        }

-- ---- the slots of a table

pub known_all : (nodes : Nodes) (view : View) (list : List Atom) (place : ℕ) → IsKnownSuperseded view 0 (Bag nodes) list [] place ↔ IsSupersededAt nodes view list place
known_all nodes view list place = (
  λ s. (
    s.holds.way.within,
    record {
      slot = s.slot;
      at = s.at;
      knows = subst (Knows view) (let e : 0 + s.slot ≡ s.slot = omega arith in e) s.knows;
      there = s.there;
      place = s.holds.path;
      keep = s.holds.keep;
      holds = s.holds.holds;
      mine = s.holds.way.goes.mine;
      other = s.holds.way.goes.other;
      is = s.holds.way.goes.is;
      stands = s.holds.way.goes.stands;
      way = s.holds.way.goes.way;
    },
  ),
  λ (within, s). record {
    slot = s.slot;
    at = s.at;
    knows = subst (Knows view) (let e : s.slot ≡ 0 + s.slot = omega arith in e) s.knows;
    there = s.there;
    holds = record { keep = s.keep; path = s.place; holds = s.holds; way = record { within = within; goes = record { mine = s.mine; other = s.other; is = s.is; stands = s.stands; way = s.way } } };
  },
)

-- ---- the places at the end

all_data : (list : List Atom) (gone : List ℕ) → ((place : ℕ) → IsIn place gone → (payload : List ℕ) × (slice_get list place ≡ Some (0 ∷ payload))) → AreDataPlaces gone list
all_data list [] f = tt
all_data list (place ∷ gone) f = (f place (inl refl), all_data list gone (λ p i. f p (inr i)))

-- What is superseded is a datum.
pub superseded_data : (nodes : Nodes) (view : View) (list : List Atom) (gone : List ℕ) → ((place : ℕ) → IsIn place gone → IsSupersededAt nodes view list place) → AreDataPlaces gone list
superseded_data nodes view list gone f = all_data list gone (λ place i.
    let (within, s) = f place i in
    (s.mine, atom_there list place within ∙ ap Some (last_is list place s.place (0 ∷ s.mine) within s.is)))
