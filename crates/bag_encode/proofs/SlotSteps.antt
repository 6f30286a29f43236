-- What is written for a slot: the headers on the way to it one by one, and then its value.
use Rattle.std.proofs.Common.{◌≡◌, ℕ, zero, suc, ◌+◌, ◌<◌, ◌≤◌, List, [], ◌∷◌, ◌++◌, length, drop, Some, refl, sym, ap, ◌∙◌, subst, add-one, arith}
use Rattle.std.specs.List.{slice_get}
use Rattle.std.specs.Option.{option_map}
use Rattle.context_model.specs.Ended.{field_path, field_path_from}
use Rattle.context_model.specs.Kinds.{atom_of}
use Rattle.context_model.specs.Kinds.Kind.{Indexed}
use Rattle.context_model.specs.declared.TheConstants.{LEVELS_MAX}
use Rattle.bag_model.specs.Joins.{IsBottom}
use Rattle.bag_model.specs.Shapes.{Shape, Nodes}
use Rattle.bag_model.specs.Slots.{SlotAt, slots_of}
use Rattle.bag_model.specs.SlotValues.{HasSlot, only}
use Rattle.bag_model.specs.Tables.{IsTable, levels_under}
use Rattle.bag_model.specs.Values.{Value, IsOfShape, AreOfShapes}
use Rattle.bag_model.proofs.EachSlot.{only_fits}
use Rattle.bag_encode.specs.Values.{atoms, atoms_of, field_atoms}
use Rattle.bag_encode.proofs.SlotTrees.{only_trees, slot_bare, said_slot, levels_of}
use Rattle.bag_encode.proofs.Steps.{dropped}

-- The headers from a place on: the next one, and then the rest.
pub headers_turn : (numbers : List ℕ) (i number : ℕ) → slice_get numbers i ≡ Some number
    → field_path_from i (drop i numbers) ≡ atom_of (Indexed i number) ∷ field_path_from (i + 1) (drop (i + 1) numbers)
headers_turn numbers i number at =
    ap (field_path_from i) (dropped numbers i number at) ∙ ap (λ k. atom_of (Indexed i number) ∷ field_path_from k (drop (i + 1) numbers)) (sym (add-one i))

a_slot : (slots : List SlotAt) (i : ℕ) → i < length slots → (at : SlotAt) × (slice_get slots i ≡ Some at)
a_slot [] i l = absurd (omega (arith, l))
a_slot (at ∷ slots) zero l = (at, refl)
a_slot (other ∷ slots) (suc i) l = a_slot slots i (omega (arith, l))

module _ (nodes : Nodes) (slot : ℕ) (v : Value) (within : slot < length (slots_of nodes)) where
  -- Where the value is bottom nothing is written.
  pub bottom_slot : IsBottom v → field_atoms nodes 0 (only nodes slot v) ≡ []
  bottom_slot b =
      let (at, there) = a_slot (slots_of nodes) slot within in
      ap atoms (only_trees nodes 0 slot at v there ∙ slot_bare 0 at.numbers at.shape v b)

  module _ (of_shape : (at : SlotAt) → HasSlot nodes slot at → IsOfShape at.shape v) where
    -- The values are of the table's shapes.
    pub only_shaped : AreOfShapes nodes (only nodes slot v)
    only_shaped = let (at, there) = a_slot (slots_of nodes) slot within in only_fits.shapes nodes slot at v there (of_shape at there)

    -- The slot's own shape and numbers: the value is of the shape, its headers have room, and it is
    -- written after the headers on the way to the slot.
    pub record IsWritten (numbers : List ℕ) (shape : Shape) : Type 0 where
      pub is : IsOfShape shape v
      pub room : length numbers + levels_under shape ≤ LEVELS_MAX
      pub laid : ¬ (IsBottom v) → field_atoms nodes 0 (only nodes slot v) ≡ field_path numbers ++ atoms_of shape (length numbers) v

    pub slot_written : (numbers : List ℕ) (shape : Shape) → IsTable nodes
        → Some numbers ≡ option_map (λ (found : SlotAt). found.numbers) (slice_get (slots_of nodes) slot)
        → Some shape ≡ option_map (λ (found : SlotAt). found.shape) (slice_get (slots_of nodes) slot)
        → IsWritten numbers shape
    slot_written numbers shape table numbers_are shape_is =
        let (at, there) = a_slot (slots_of nodes) slot within in
        let numbers_some : Some numbers ≡ Some at.numbers = numbers_are ∙ ap (option_map (λ (found : SlotAt). found.numbers)) there in
        let shape_some : Some shape ≡ Some at.shape = shape_is ∙ ap (option_map (λ (found : SlotAt). found.shape)) there in
        let own_numbers : numbers ≡ at.numbers = cc numbers_some in
        let own_shape : shape ≡ at.shape = cc shape_some in
        subst (λ ns. IsWritten ns shape) (sym own_numbers) (subst (λ s. IsWritten at.numbers s) (sym own_shape) (record {
          is = of_shape at there;
          room = omega (arith, levels_of nodes slot at there, table.shallow);
          laid = λ some. ap atoms (only_trees nodes 0 slot at v there) ∙ said_slot 0 (length at.numbers) at.numbers at.shape v (omega arith) (of_shape at there) some;
        }))
