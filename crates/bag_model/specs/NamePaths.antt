-- What a name path tells of the slots of a table.
use Rattle.std.specs.Prelude.{◌≡◌, ◌↔◌, ℕ, List, Option, Some}
use Rattle.std.specs.List.{slice_get}
use Rattle.bag_model.specs.Shapes.{Nodes}
use Rattle.bag_model.specs.Slots.{SlotAt, slots_of, name_path, FindsRange, IsInRange, IsUnder}
use Rattle.bag_model.specs.Tables.{IsTable}

-- Two slots of a table with one name path are one slot.
abbrev pub NamePathsDiffer : Type 0
NamePathsDiffer =
    (nodes : Nodes) (i j : ℕ) (a b : SlotAt) → IsTable nodes → slice_get (slots_of nodes) i ≡ Some a
    → slice_get (slots_of nodes) j ≡ Some b → name_path a ≡ name_path b → i ≡ j

-- The range that is found of a name path has exactly the slots whose name path is it, or begins
-- with it and a dot.
abbrev pub RangesAreExact : Type 0
RangesAreExact =
    (nodes : Nodes) (path : List ℕ) (range : Option (ℕ × ℕ)) (place : ℕ) (slot : SlotAt)
    → IsTable nodes
    → FindsRange nodes path range → slice_get (slots_of nodes) place ≡ Some slot
    → IsInRange range place ↔ IsUnder path (name_path slot)
