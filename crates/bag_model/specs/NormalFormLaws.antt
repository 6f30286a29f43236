-- What normal form keeps.
use Rattle.std.specs.Prelude.{◌≡◌, ◌↔◌, List, []}
use Rattle.context_model.specs.Atoms.{Atom}
use Rattle.context_model.specs.Orders.{Path, IsIn}
use Rattle.context_model.specs.WellFormed.{IsWellFormed}
use Rattle.context_model.specs.Ended.{HasMarker, IsEnded, field_path}
use Rattle.bag_model.specs.Shapes.{Nodes}
use Rattle.bag_model.specs.Values.{Values}
use Rattle.bag_model.specs.Slots.{SlotAt, slots_of}
use Rattle.bag_model.specs.Tables.{IsTable}
use Rattle.bag_model.specs.Views.{View}
use Rattle.bag_model.specs.Readings.{PathsOf, SaysValues}
use Rattle.bag_model.specs.Typed.{AreTyped}
use Rattle.bag_model.specs.Encodings.{IsForeign}
use Rattle.bag_model.specs.NormalForm.{IsNormalOf}

-- The normal form of a well-formed list is well formed, has the same ended slots and the same
-- foreign paths, and a marker exactly where the list has one; and a list has one normal form.
pub record NormalKeepsList (nodes : Nodes) (view : View) (list normal : List Atom) : Type 0 where
  pub well_formed : IsWellFormed normal
  pub ended : (slot : SlotAt) → IsIn slot (slots_of nodes)
      → IsEnded normal (field_path slot.numbers) ↔ IsEnded list (field_path slot.numbers)
  pub foreign : (p : Path) → IsForeign nodes normal p ↔ IsForeign nodes list p
  pub marker : HasMarker normal ↔ HasMarker list
  pub once : (again : List Atom) → IsNormalOf nodes view normal again → again ≡ normal
  pub one : (other : List Atom) → IsNormalOf nodes view list other → other ≡ normal

-- The normal form of a typed list is typed, and says the same values.
pub record NormalKeepsValues (nodes : Nodes) (list normal : List Atom) : Type 0 where
  pub typed : AreTyped nodes (PathsOf normal) []
  pub says : (vs : Values) → SaysValues nodes normal vs ↔ SaysValues nodes list vs

-- The laws of normal form.
pub record NormalFormKeeps : Type 0 where
  pub lists : (nodes : Nodes) (view : View) (list normal : List Atom)
      → IsTable nodes → IsWellFormed list → IsNormalOf nodes view list normal
      → NormalKeepsList nodes view list normal
  pub values : (nodes : Nodes) (view : View) (list normal : List Atom)
      → IsTable nodes → IsWellFormed list → AreTyped nodes (PathsOf list) []
      → IsNormalOf nodes view list normal → NormalKeepsValues nodes list normal
