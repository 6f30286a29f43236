-- The values of a bag slot by slot, and the bag that is bottom except at one slot.
use Rattle.std.specs.Prelude.{◌≡◌, ◌≢◌, ◌↔◌, ℕ, ◌-◌, nat_lt, if◌then◌else◌, List, [], ◌∷◌, ◌++◌, Some}
use Rattle.std.specs.List.{slice_get}
use Rattle.context_model.specs.Atoms.{Atom}
use Rattle.context_model.specs.Ended.{field_path}
use Rattle.bag_model.specs.Shapes.{Shape, Nodes, Taint, Scalar, Set, Counter, Map, Bag, no_node, node}
use Rattle.bag_model.specs.Slots.{SlotAt, slots_of, slot_count}
use Rattle.bag_model.specs.Values.{Value, Values, Bag, no_value, value, bottom, bottoms, IsOfShape, AreOfShapes}
use Rattle.bag_model.specs.Joins.{join_values, IsValueBelow}
use Rattle.bag_model.specs.Readings.{PathsOf, Reads, SaysValues}

-- The values of the slots of a field that has this value, in the order of its slots.
abbrev mutual
  pub slot_values_in : Shape → Value → List Value
  slot_values_in Taint v = v ∷ []
  slot_values_in (Scalar pick kind) v = v ∷ []
  slot_values_in (Set kind) v = v ∷ []
  slot_values_in Counter v = v ∷ []
  slot_values_in (Map key shape) v = v ∷ []
  slot_values_in (Bag nodes) (Bag vs) = slot_values nodes vs
  slot_values_in (Bag nodes) other = []

  -- The values of the slots of a bag, in the order of its slots.
  pub slot_values : Nodes → Values → List Value
  slot_values no_node vs = []
  slot_values (node name number shape nodes) no_value = []
  slot_values (node name number shape nodes) (value v vs) =
      slot_values_in shape v ++ slot_values nodes vs

-- The value of a field that is bottom except for the value v at a slot of the field.
abbrev mutual
  pub only_in : Shape → ℕ → Value → Value
  only_in Taint slot v = v
  only_in (Scalar pick kind) slot v = v
  only_in (Set kind) slot v = v
  only_in Counter slot v = v
  only_in (Map key shape) slot v = v
  only_in (Bag nodes) slot v = Bag (only nodes slot v)

  -- The values of a bag's fields that are bottom except for the value v at a slot of the bag.
  pub only : Nodes → ℕ → Value → Values
  only no_node slot v = no_value
  only (node name number shape nodes) slot v =
      if nat_lt slot (slot_count shape)
      then value (only_in shape slot v) (bottoms nodes)
      else value (bottom shape) (only nodes (slot - slot_count shape) v)

-- The value of a field, with the value v in place of what it has at a slot of the field.
abbrev mutual
  pub with_slot_in : Shape → ℕ → Value → Value → Value
  with_slot_in Taint slot v own = v
  with_slot_in (Scalar pick kind) slot v own = v
  with_slot_in (Set kind) slot v own = v
  with_slot_in Counter slot v own = v
  with_slot_in (Map key shape) slot v own = v
  with_slot_in (Bag nodes) slot v (Bag vs) = Bag (with_slot nodes slot v vs)
  with_slot_in (Bag nodes) slot v other = other

  -- The values of a bag's fields, with the value v in place of what they have at a slot of the bag.
  pub with_slot : Nodes → ℕ → Value → Values → Values
  with_slot no_node slot v vs = vs
  with_slot (node name number shape nodes) slot v no_value = no_value
  with_slot (node name number shape nodes) slot v (value own vs) =
      if nat_lt slot (slot_count shape)
      then value (with_slot_in shape slot v own) vs
      else value own (with_slot nodes (slot - slot_count shape) v vs)

-- The table has this slot at this place.
abbrev pub HasSlot : Nodes → ℕ → SlotAt → Type 0
HasSlot nodes place slot = slice_get (slots_of nodes) place ≡ Some slot

-- The values have this one at the slot with this place.
abbrev pub HasSlotValue : Nodes → Values → ℕ → Value → Type 0
HasSlotValue nodes vs place v = slice_get (slot_values nodes vs) place ≡ Some v

-- The list says this value of the slot.
abbrev pub SaysSlot : List Atom → SlotAt → Value → Type 0
SaysSlot list slot v = Reads slot.shape (PathsOf list) (field_path slot.numbers) v

-- What a list says of a table it says slot by slot, and back.
pub record SlotsReadApart : Type 0 where
  pub slot : (nodes : Nodes) (list : List Atom) (vs : Values) (place : ℕ) (at : SlotAt)
      → SaysValues nodes list vs → HasSlot nodes place at
      → (v : Value) × HasSlotValue nodes vs place v × SaysSlot list at v
  pub whole : (nodes : Nodes) (list : List Atom) (vs : Values) → AreOfShapes nodes vs
      → ((place : ℕ) (at : SlotAt) (v : Value)
      → HasSlot nodes place at → HasSlotValue nodes vs place v → SaysSlot list at v)
      → SaysValues nodes list vs

-- A value of a slot's shape, with bottom at all other slots, makes values of the table's shapes.
pub record OnlyFits : Type 0 where
  pub shapes : (nodes : Nodes) (place : ℕ) (at : SlotAt) (v : Value)
      → HasSlot nodes place at → IsOfShape at.shape v → AreOfShapes nodes (only nodes place v)
  pub own : (nodes : Nodes) (place : ℕ) (at : SlotAt) (v : Value)
      → HasSlot nodes place at → HasSlotValue nodes (only nodes place v) place v
  pub others : (nodes : Nodes) (place : ℕ) (at : SlotAt) (v : Value) (other : ℕ) (there : SlotAt)
      → HasSlot nodes place at → HasSlot nodes other there → other ≢ place
      → HasSlotValue nodes (only nodes place v) other (bottom there.shape)

-- A value of a slot's shape in place of what values of a table's shapes have there makes values of
-- these shapes, which have it there and are the same at all other slots.
pub record WithSlotFits : Type 0 where
  pub shapes : (nodes : Nodes) (place : ℕ) (at : SlotAt) (v : Value) (vs : Values)
      → HasSlot nodes place at → IsOfShape at.shape v → AreOfShapes nodes vs
      → AreOfShapes nodes (with_slot nodes place v vs)
  pub own : (nodes : Nodes) (place : ℕ) (at : SlotAt) (v : Value) (vs : Values)
      → HasSlot nodes place at → AreOfShapes nodes vs
      → HasSlotValue nodes (with_slot nodes place v vs) place v
  pub others : (nodes : Nodes) (place : ℕ) (v : Value) (vs : Values) (other : ℕ) (w : Value)
      → AreOfShapes nodes vs → other ≢ place
      → HasSlotValue nodes (with_slot nodes place v vs) other w → HasSlotValue nodes vs other w

-- Values of a table's shapes have a value of its shape at each slot.
abbrev pub SlotsHaveValues : Type 0
SlotsHaveValues = (nodes : Nodes) (vs : Values) (place : ℕ) (at : SlotAt)
    → AreOfShapes nodes vs → HasSlot nodes place at
    → (v : Value) × HasSlotValue nodes vs place v × IsOfShape at.shape v

-- Some values of a bag's fields say what others say exactly where it is so at each slot.
abbrev pub BelowAtSlots : Type 0
BelowAtSlots = (nodes : Nodes) (vs ws : Values) → AreOfShapes nodes vs → AreOfShapes nodes ws
    → (join_values vs ws ≡ ws)
    ↔ ((place : ℕ) (v w : Value)
    → HasSlotValue nodes vs place v → HasSlotValue nodes ws place w → IsValueBelow v w)
