-- The shapes of a table's slots.
use Rattle.std.proofs.Common.{◌≡◌, ◌⊎◌, inl, inr, ℕ, zero, suc, List, [], ◌∷◌, Option, Some, None, refl, subst}
use Rattle.std.specs.List.{slice_get}
use Rattle.std.specs.Option.{option_map}
use Rattle.bag_model.specs.Shapes.{Shape, Nodes, Taint, Scalar, Set, Counter, Map, Bag, no_node, node}
use Rattle.bag_model.specs.Slots.{SlotAt, slots_in, slots_of}
use Rattle.bag_model.specs.SlotValues.{HasSlot}
use Rattle.bag_model.specs.Tables.{IsShape, AreFields, IsTable}
use Rattle.bag_model.proofs.SlotNumbers.{IsInFirst, IsLater, first_or_later}

alone_shape : (own : Shape) (place : ℕ) (at : SlotAt) → IsShape own → slice_get (record { names = []; numbers = []; shape = own } ∷ []) place ≡ Some at → IsShape at.shape
alone_shape own zero at is e =
    let same : record { names = []; numbers = []; shape = own } ≡ at = cc e in
    subst (λ (s : SlotAt). IsShape s.shape) same is
alone_shape own (suc place) at is e = absurd (cc e)

node_shape : (name : List ℕ) (number : ℕ) (own : Shape) (nodes : Nodes) (place : ℕ) (at : SlotAt) → IsInFirst name number own place at ⊎ IsLater own nodes place at
    → ((inner : SlotAt) → slice_get (slots_in own) place ≡ Some inner → IsShape inner.shape) → ((behind : ℕ) → HasSlot nodes behind at → IsShape at.shape) → IsShape at.shape
node_shape name number own nodes place at (inl first) inside later = subst (λ (s : SlotAt). IsShape s.shape) first.is (inside first.inner first.at)
node_shape name number own nodes place at (inr behind) inside later = later behind.behind behind.at

mutual
  -- The shape of a slot of a table is one.
  pub slot_shape : (nodes : Nodes) (place : ℕ) (at : SlotAt) → AreFields nodes → HasSlot nodes place at → IsShape at.shape
  slot_shape no_node place at are e = absurd (cc e)
  slot_shape (node name number own nodes) place at are e =
      node_shape name number own nodes place at (first_or_later name number own nodes place at e) (λ inner found. inner_shape own place inner are.2 found) (λ behind found. slot_shape nodes behind at are.4 found)

  inner_shape : (own : Shape) (place : ℕ) (at : SlotAt) → IsShape own → slice_get (slots_in own) place ≡ Some at → IsShape at.shape
  inner_shape (Bag nodes) place at is e = slot_shape nodes place at is e
  inner_shape Taint place at is e = alone_shape Taint place at is e
  inner_shape (Scalar pick kind) place at is e = alone_shape (Scalar pick kind) place at is e
  inner_shape (Set kind) place at is e = alone_shape (Set kind) place at is e
  inner_shape Counter place at is e = alone_shape Counter place at is e
  inner_shape (Map key value) place at is e = alone_shape (Map key value) place at is e

-- What a table answers as the shape of a slot is one that a table may have.
pub slot_has_shape : (nodes : Nodes) (slot : ℕ) (shape : Shape) → IsTable nodes → Some shape ≡ option_map (λ (at : SlotAt). at.shape) (slice_get (slots_of nodes) slot) → IsShape shape
slot_has_shape nodes slot shape table e = by (slice_get (slots_of nodes) slot) refl e
  where
    by : (found : Option SlotAt) → slice_get (slots_of nodes) slot ≡ found → Some shape ≡ option_map (λ (at : SlotAt). at.shape) found → IsShape shape
    by None there is = absurd (cc is)
    by (Some at) there is =
        let same : at.shape ≡ shape = cc is in
        subst IsShape same (slot_shape nodes slot at table.well_formed there)
