-- The data that normal form takes away, and the headers that they are under.
use Rattle.std.specs.Prelude.{◌≡◌, ℕ, Some, List, slice_get}
use Rattle.context_model.specs.Atoms.{Atom}
use Rattle.context_model.specs.Orders.{IsIn}
use Rattle.context_model.specs.Paths.{path_at}
use Rattle.context_model.specs.WellFormed.{IsWellFormed}
use Rattle.context_model.specs.Ended.{IsBelow, IsBeyond, field_path}
use Rattle.bag_model.specs.Shapes.{Nodes}
use Rattle.bag_model.specs.Slots.{SlotAt, slots_of}
use Rattle.bag_model.specs.Tables.{IsTable}
use Rattle.bag_model.specs.Views.{View, Knows}
use Rattle.bag_model.specs.Readings.{PathsOf}
use Rattle.bag_model.specs.NormalForm.{IsNormalOf}

-- The atom at this place is under the header of a slot that the view knows. The header stays, and
-- it is beyond each slot that the atom is beyond.
pub record LeavesItsHeader (nodes : Nodes) (view : View) (list normal : List Atom)
    (place : ℕ) : Type 0 where
  pub slot : ℕ
  pub at : SlotAt
  pub there : slice_get (slots_of nodes) slot ≡ Some at
  pub knows : Knows view slot
  pub below : IsBelow (field_path at.numbers) (path_at list place)
  pub stays : PathsOf normal (field_path at.numbers)
  pub beyond : (other : SlotAt) → IsIn other (slots_of nodes)
      → IsBeyond (field_path other.numbers) (path_at list place)
      → IsBeyond (field_path other.numbers) (field_path at.numbers)

-- Each datum that normal form takes away is under the header of a slot that the view knows, and
-- that header stays.
abbrev pub GoneDataLeaveHeaders : Type 0
GoneDataLeaveHeaders =
    (nodes : Nodes) (view : View) (list normal : List Atom) → IsTable nodes → IsWellFormed list
    → (form : IsNormalOf nodes view list normal) → (place : ℕ) → IsIn place form.gone
    → LeavesItsHeader nodes view list normal place
