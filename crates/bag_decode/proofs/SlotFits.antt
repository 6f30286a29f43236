-- What holds of a table holds of its slots.
use Rattle.std.proofs.Common.{◌≡◌, ◌⊎◌, inl, inr, ℕ, ◌+◌, ◌≤◌, max, List, [], ◌∷◌, length, map, Option, Some, None, refl, sym, ap, ◌∙◌, subst, arith}
use Rattle.std.specs.Option.{option_map}
use Rattle.context_model.specs.Orders.{Path, IsIn}
use Rattle.bag_model.specs.Shapes.{Shape, Nodes, Taint, Scalar, Set, Counter, Map, Bag, no_node, node}
use Rattle.bag_model.specs.Tables.{IsShape, AreFields, levels, levels_under}
use Rattle.bag_model.specs.Typed.{IsTyped, AreTyped}
use Rattle.bag_model.specs.Readings.{node_path}
use Rattle.bag_model.specs.Slots.{SlotAt, slots_in, slots_of, within}
use Rattle.bag_model.proofs.Finite.{in_append}
use Rattle.bag_model.proofs.SlotsBelow.{slot_path, slot_path-within, slot_path-own, in_map}

-- The slot is of a shape that a table may have, its headers take no more levels than there are, and
-- what is below it is typed.
pub record FitsSlot (P : Path → Type 0) (q : Path) (room : ℕ) (slot : SlotAt) : Type 0 where
  pub shape : IsShape slot.shape
  pub levels_are : length slot.numbers + levels_under slot.shape ≤ room
  pub typed : IsTyped slot.shape P (slot_path q slot)

-- A field that is no bag is its only slot.
own_fits : (shape : Shape) (P : Path → Type 0) (q : Path) (slot : SlotAt) → IsShape shape → IsTyped shape P q → IsIn slot (record { names = []; numbers = []; shape = shape } ∷ []) → FitsSlot P q (levels_under shape) slot
own_fits shape P q slot is typed (inl e) = subst (FitsSlot P q (levels_under shape)) (sym e) (record {
  shape = is;
  levels_are = omega arith;
  typed = subst (IsTyped shape P) (sym (slot_path-own q shape)) typed;
})
own_fits shape P q slot is typed (inr none) = elim none [ ]

inner_fits : (P : Path → Type 0) (q : Path) (name : List ℕ) (number room more : ℕ) (slot inner : SlotAt) → slot ≡ within name number inner → 1 + room ≤ more → FitsSlot P (node_path q number) room inner → FitsSlot P q more slot
inner_fits P q name number room more slot inner is l fits = subst (FitsSlot P q more) (sym is) (record {
  shape = fits.shape;
  levels_are = let few : length inner.numbers + levels_under inner.shape ≤ room = fits.levels_are in omega arith;
  typed = subst (IsTyped inner.shape P) (sym (slot_path-within q name number inner)) fits.typed;
})

wider : (P : Path → Type 0) (q : Path) (room more : ℕ) (slot : SlotAt) → room ≤ more → FitsSlot P q room slot → FitsSlot P q more slot
wider P q room more slot l fits = record { shape = fits.shape; levels_are = omega (arith, fits.levels_are); typed = fits.typed }

mutual
  pub slot_fits : (shape : Shape) (P : Path → Type 0) (q : Path) (slot : SlotAt) → IsShape shape → IsTyped shape P q → IsIn slot (slots_in shape) → FitsSlot P q (levels_under shape) slot
  slot_fits Taint P q slot is typed i = own_fits Taint P q slot is typed i
  slot_fits (Scalar pick kind) P q slot is typed i = own_fits (Scalar pick kind) P q slot is typed i
  slot_fits (Set kind) P q slot is typed i = own_fits (Set kind) P q slot is typed i
  slot_fits Counter P q slot is typed i = own_fits Counter P q slot is typed i
  slot_fits (Map key value) P q slot is typed i = own_fits (Map key value) P q slot is typed i
  slot_fits (Bag nodes) P q slot is typed i = slots_fit nodes P q slot is typed i

  pub slots_fit : (nodes : Nodes) (P : Path → Type 0) (q : Path) (slot : SlotAt) → AreFields nodes → AreTyped nodes P q → IsIn slot (slots_of nodes) → FitsSlot P q (levels nodes) slot
  slots_fit no_node P q slot are typed none = elim none [ ]
  slots_fit (node name number shape nodes) P q slot are typed i =
      by (in_append slot (map (within name number) (slots_in shape)) (slots_of nodes) i)
      (λ inner j. slot_fits shape P (node_path q number) inner are.2 typed.0 j) (λ j. slots_fit nodes P q slot are.4 typed.1 j)
    where
      by : IsIn slot (map (within name number) (slots_in shape)) ⊎ IsIn slot (slots_of nodes)
          → ((inner : SlotAt) → IsIn inner (slots_in shape) → FitsSlot P (node_path q number) (levels_under shape) inner)
          → (IsIn slot (slots_of nodes) → FitsSlot P q (levels nodes) slot) → FitsSlot P q (max (1 + levels_under shape) (levels nodes)) slot
      by (inl j) own rest =
          let s = in_map (within name number) (slots_in shape) slot j in
          inner_fits P q name number (levels_under shape) (max (1 + levels_under shape) (levels nodes)) slot s.0 s.2 (omega arith) (own s.0 s.1)
      by (inr j) own rest = wider P q (levels nodes) (max (1 + levels_under shape) (levels nodes)) slot (omega arith) (rest j)

-- ---- the slot that calls of a table speak of

pub seen_shape : (o : Option SlotAt) (shape : Shape) → Some shape ≡ option_map (λ (found : SlotAt). found.shape) o → (at : SlotAt) × (o ≡ Some at) × (shape ≡ at.shape)
seen_shape None shape e = absurd (cc e)
seen_shape (Some at) shape e = (at, refl, cc)

pub seen_numbers : (o : Option SlotAt) (at : SlotAt) (numbers : List ℕ) → o ≡ Some at → Some numbers ≡ option_map (λ (found : SlotAt). found.numbers) o → numbers ≡ at.numbers
seen_numbers o at numbers is e = let both : Some numbers ≡ Some at.numbers = e ∙ ap (option_map (λ (found : SlotAt). found.numbers)) is in cc both
