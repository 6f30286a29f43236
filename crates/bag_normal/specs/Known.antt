-- The data of one field that normal form takes away.
use Rattle.std.specs.Prelude.{◌≡◌, ℕ, ◌+◌, ◌<◌, ◌++◌, List, length, Some}
use Rattle.std.specs.List.{slice_get}
use Rattle.context_model.specs.Atoms.{Atom}
use Rattle.context_model.specs.Ended.{field_path_from}
use Rattle.context_model.specs.Orders.{Path}
use Rattle.bag_model.specs.Shapes.{Shape}
use Rattle.bag_model.specs.Slots.{SlotAt, slots_in}
use Rattle.bag_model.specs.Views.{View, Knows}
use Rattle.bag_model.specs.NormalForm.{Keeping, HoldsData}
use Rattle.bag_model.specs.Readings.{key_path}
use Rattle.bag_walks.specs.SupersededPlaces.{GoesAt}

-- The atom at this place of the list is a datum of q that gives way to another one of q.
pub record GivesWayAt (keep : Keeping) (list : List Atom) (q : Path) (place : ℕ) : Type 0 where
  pub within : place < length list
  pub goes : GoesAt keep list q place

-- The atom at this place is a datum of a field of this shape, whose own path is q, that gives way
-- to another one at its path.
pub record IsSupersededIn (shape : Shape) (list : List Atom) (q : Path) (place : ℕ) : Type 0 where
  pub keep : Keeping
  pub path : Path
  pub holds : HoldsData shape q keep path
  pub way : GivesWayAt keep list path place

-- The atom at this place is a datum that gives way in one of the slots of a field of this shape,
-- which the view knows. The field's own path is q, and `before` slots are before its first.
pub record IsKnownSuperseded (view : View) (before : ℕ) (shape : Shape) (list : List Atom)
    (q : Path) (place : ℕ) : Type 0 where
  pub slot : ℕ
  pub at : SlotAt
  pub there : slice_get (slots_in shape) slot ≡ Some at
  pub knows : Knows view (before + slot)
  pub holds : IsSupersededIn at.shape list (q ++ field_path_from (length q) at.numbers) place

-- P holds of the place with the path of some key after q.
pub record HoldsAtKey (P : Path → ℕ → Type 0) (q : Path) (place : ℕ) : Type 0 where
  pub key : List ℕ
  pub holds : P (key_path q key) place
