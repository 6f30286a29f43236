-- The slots of a table: the fields that are reached through bags and are no bags.
use Rattle.std.specs.Prelude.{◌≡◌, ◌≢◌, ◌⊎◌, ℕ, zero, suc, ◌+◌, ◌<◌, ◌≤◌, List, [], ◌∷◌, ◌++◌, map, length, Option, Some, None}
use Rattle.std.specs.List.{slice_get}
use Rattle.std.specs.Option.{option_map}
use Rattle.bag_model.specs.Shapes.{Shape, Nodes, Field, Taint, Scalar, Set, Counter, Map, Bag, no_node, node}

-- The names and the numbers of the fields from the outermost bag on, and the shape of the last.
pub record SlotAt : Type 0 where
  pub names : List (List ℕ)
  pub numbers : List ℕ
  pub shape : Shape

-- A slot of a field, seen from the bag that the field is in.
abbrev pub within : List ℕ → ℕ → SlotAt → SlotAt
within name number slot =
    record { names = name ∷ slot.names; numbers = number ∷ slot.numbers; shape = slot.shape }

abbrev mutual
  -- The slots of a field, seen from the field: those of a bag, and else the field itself.
  pub slots_in : Shape → List SlotAt
  slots_in (Bag nodes) = slots_of nodes
  slots_in Taint = record { names = []; numbers = []; shape = Taint } ∷ []
  slots_in (Scalar pick kind) = record { names = []; numbers = []; shape = Scalar pick kind } ∷ []
  slots_in (Set kind) = record { names = []; numbers = []; shape = Set kind } ∷ []
  slots_in Counter = record { names = []; numbers = []; shape = Counter } ∷ []
  slots_in (Map key value) = record { names = []; numbers = []; shape = Map key value } ∷ []

  -- The slots of a bag, in the order of its fields.
  pub slots_of : Nodes → List SlotAt
  slots_of no_node = []
  slots_of (node name number shape nodes) =
      map (within name number) (slots_in shape) ++ slots_of nodes

-- How many slots a field has.
abbrev pub slot_count : Shape → ℕ
slot_count shape = length (slots_in shape)

-- How many slots the fields before a place have.
abbrev pub starts : List Field → ℕ → ℕ
starts [] place = 0
starts (field ∷ list) zero = 0
starts (field ∷ list) (suc place) = slot_count field.shape + starts list place

-- Names joined by dots.
abbrev pub dotted : List (List ℕ) → List ℕ
dotted [] = []
dotted (name ∷ []) = name
dotted (name ∷ other ∷ names) = name ++ 46 ∷ dotted (other ∷ names)

-- The name path of a slot.
abbrev pub name_path : SlotAt → List ℕ
name_path slot = dotted slot.names

-- The slot with this name path, or none where no slot has it.
abbrev pub FindsSlot : Nodes → List ℕ → Option ℕ → Type 0
FindsSlot nodes path (Some place) =
    (slot : SlotAt) × (slice_get (slots_of nodes) place ≡ Some slot) × (name_path slot ≡ path)
FindsSlot nodes path None =
    (place : ℕ) (slot : SlotAt) → slice_get (slots_of nodes) place ≡ Some slot
    → name_path slot ≢ path

abbrev mutual
  -- The field with these names, seen from a field of the first shape, has the second shape; this
  -- many slots are before it.
  pub IsWithin : Shape → List (List ℕ) → ℕ → Shape → Type 0
  IsWithin own [] before shape = (before ≡ 0) × (shape ≡ own)
  IsWithin (Bag nodes) (name ∷ names) before shape = IsReached nodes name names before shape
  IsWithin Taint (name ∷ names) before shape = ⊥
  IsWithin (Scalar pick kind) (name ∷ names) before shape = ⊥
  IsWithin (Set kind) (name ∷ names) before shape = ⊥
  IsWithin Counter (name ∷ names) before shape = ⊥
  IsWithin (Map key value) (name ∷ names) before shape = ⊥

  -- The field with these names, of which there is at least one, has the shape, seen from a bag with
  -- these fields; this many slots are before it.
  pub IsReached : Nodes → List ℕ → List (List ℕ) → ℕ → Shape → Type 0
  IsReached no_node name names before shape = ⊥
  IsReached (node field number own nodes) name names before shape =
      ((name ≡ field) × IsWithin own names before shape)
      ⊎ ((behind : ℕ) × (before ≡ slot_count own + behind)
      × IsReached nodes name names behind shape)

-- The field with this name path, as the number of slots before it and its shape, or none where no
-- field that is reached through bags has it.
abbrev pub FindsField : Nodes → List ℕ → Option (ℕ × Shape) → Type 0
FindsField nodes path (Some found) =
    (name : List ℕ) × (names : List (List ℕ)) × (dotted (name ∷ names) ≡ path)
    × IsReached nodes name names found.0 found.1
FindsField nodes path None =
    (name : List ℕ) (names : List (List ℕ)) (before : ℕ) (shape : Shape)
    → IsReached nodes name names before shape → dotted (name ∷ names) ≢ path

-- The slots of a field: from the number before it on, and up to that and its own.
abbrev pub range_of : ℕ × Shape → ℕ × ℕ
range_of found = (found.0, found.0 + slot_count found.1)

-- The slots of the field with this name path, or none where no field that is reached through bags
-- has it.
abbrev pub FindsRange : Nodes → List ℕ → Option (ℕ × ℕ) → Type 0
FindsRange nodes path range =
    (found : Option (ℕ × Shape)) × FindsField nodes path found × (range ≡ option_map range_of found)

-- A name path is this one, or begins with this one and a dot.
abbrev pub IsUnder : List ℕ → List ℕ → Type 0
IsUnder path other = (other ≡ path) ⊎ ((rest : List ℕ) × (other ≡ path ++ 46 ∷ rest))

-- The number is in the range, if there is one.
abbrev pub IsInRange : Option (ℕ × ℕ) → ℕ → Type 0
IsInRange None place = ⊥
IsInRange (Some range) place = (range.0 ≤ place) × (place < range.1)
