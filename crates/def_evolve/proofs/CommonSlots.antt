-- The numbers of a slot are a way to it, so that the shapes of a common slot fit.
use Rattle.std.proofs.Common.{◌≡◌, ◌⊎◌, inl, inr, ℕ, List, [], ◌∷◌, ◌++◌, map, refl, sym, ap, subst}
use Rattle.context_model.specs.Orders.{IsIn}
use Rattle.bag_model.specs.Shapes.{Shape, Nodes, Field, Taint, Scalar, Set, Counter, Map, Bag, no_node, node, fields}
use Rattle.bag_model.specs.Slots.{SlotAt, slots_in, slots_of, within}
use Rattle.bag_model.proofs.Finite.{in_append}
use Rattle.bag_model.proofs.SlotsBelow.{in_map}
use Rattle.def_evolve.specs.declared.verdicts.Part.{Part}
use Rattle.def_evolve.specs.declared.verdicts.Part.TheVariants.{Number}
use Rattle.def_evolve.specs.Breaks.{LeadsAlong, Fits, IsFitting}
use Rattle.def_evolve.specs.Evolution.{IsCommonSlot}
use Rattle.def_evolve.proofs.Fitting.{leads_on}

-- The way with these numbers.
abbrev pub way_of : List ℕ → List Part
way_of = map Number

-- A slot of a bag, seen from the field that it is in.
pub record IsSlotOf (nodes : Nodes) (slot : SlotAt) : Type 0 where
  pub field : Field
  pub there : IsIn field (fields nodes)
  pub inner : SlotAt
  pub inside : IsIn inner (slots_in field.shape)
  pub numbers : slot.numbers ≡ field.number ∷ inner.numbers
  pub shape : slot.shape ≡ inner.shape

pub slot_of : (nodes : Nodes) (slot : SlotAt) → IsIn slot (slots_of nodes) → IsSlotOf nodes slot
slot_of no_node slot none = elim none [ ]
slot_of (node name number shape nodes) slot i = by (in_append slot (map (within name number) (slots_in shape)) (slots_of nodes) i) (λ j. slot_of nodes slot j)
  where
    by : IsIn slot (map (within name number) (slots_in shape)) ⊎ IsIn slot (slots_of nodes) → (IsIn slot (slots_of nodes) → IsSlotOf nodes slot) → IsSlotOf (node name number shape nodes) slot
    by (inl j) rest =
        let s = in_map (within name number) (slots_in shape) slot j in
        record {
          field = record { name = name; number = number; shape = shape };
          there = inl refl;
          inner = s.0;
          inside = s.1;
          numbers = ap (λ (x : SlotAt). x.numbers) s.2;
          shape = ap (λ (x : SlotAt). x.shape) s.2;
        }
    by (inr j) rest =
        let s = rest j in
        record { field = s.field; there = inr s.there; inner = s.inner; inside = s.inside; numbers = s.numbers; shape = s.shape }

-- a slot that is the field itself
own_slot : (own : Shape) (slot : SlotAt) → IsIn slot (record { names = []; numbers = []; shape = own } ∷ []) → LeadsAlong own (way_of slot.numbers) slot.shape
own_slot own slot (inl e) = subst (λ (s : SlotAt). LeadsAlong own (way_of s.numbers) s.shape) (sym e) refl
own_slot own slot (inr none) = absurd none

mutual
  pub slot_leads : (own : Shape) (slot : SlotAt) → IsIn slot (slots_in own) → LeadsAlong own (way_of slot.numbers) slot.shape
  slot_leads Taint slot i = own_slot Taint slot i
  slot_leads (Scalar pick kind) slot i = own_slot (Scalar pick kind) slot i
  slot_leads (Set kind) slot i = own_slot (Set kind) slot i
  slot_leads Counter slot i = own_slot Counter slot i
  slot_leads (Map key shape) slot i = own_slot (Map key shape) slot i
  slot_leads (Bag nodes) slot i = slots_lead nodes nodes slot (λ field j. j) i

  -- of some of a bag's fields
  slots_lead : (nodes all : Nodes) (slot : SlotAt) → ((field : Field) → IsIn field (fields nodes) → IsIn field (fields all)) → IsIn slot (slots_of nodes) → LeadsAlong (Bag all) (way_of slot.numbers) slot.shape
  slots_lead no_node all slot among none = elim none [ ]
  slots_lead (node name number shape nodes) all slot among i =
      by (in_append slot (map (within name number) (slots_in shape)) (slots_of nodes) i) (λ inner j. slot_leads shape inner j) (λ j. slots_lead nodes all slot (λ field k. among field (inr k)) j)
    where
      by : IsIn slot (map (within name number) (slots_in shape)) ⊎ IsIn slot (slots_of nodes) → ((inner : SlotAt) → IsIn inner (slots_in shape) → LeadsAlong shape (way_of inner.numbers) inner.shape)
          → (IsIn slot (slots_of nodes) → LeadsAlong (Bag all) (way_of slot.numbers) slot.shape) → LeadsAlong (Bag all) (way_of slot.numbers) slot.shape
      by (inl j) own rest =
          let s = in_map (within name number) (slots_in shape) slot j in
          let field : Field = record { name = name; number = number; shape = shape } in
          subst (λ (x : SlotAt). LeadsAlong (Bag all) (way_of x.numbers) x.shape) (sym s.2) (shape, (field, among field (inl refl), refl, refl), own s.0 s.1)
      by (inr j) own rest = rest j

-- What is inside a common slot fits as the tables do.
pub slot_fits : (old new : Nodes) (a b : SlotAt) → IsFitting old new → IsCommonSlot old new a b → Fits a.shape b.shape
slot_fits old new a b f common = λ more change x.
    f (way ++ more) change (x.0, x.1, leads_on (Bag old) a.shape x.0 way more (slot_leads (Bag old) a common.before) x.2, leads_on (Bag new) b.shape x.1 way more behind x.3, x.4)
  where
    way : List Part
    way = way_of a.numbers

    behind : LeadsAlong (Bag new) way b.shape
    behind = subst (λ numbers. LeadsAlong (Bag new) (way_of numbers) b.shape) (sym common.one) (slot_leads (Bag new) b common.behind)
