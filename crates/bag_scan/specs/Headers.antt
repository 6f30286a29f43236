-- What a search for the headers of a bag's fields finds.
use Rattle.std.specs.Prelude.{◌≡◌, ℕ, ◌+◌, ◌<◌, ◌≤◌, ◌^◌, List, length, Some}
use Rattle.std.specs.List.{slice_get}
use Rattle.context_model.specs.declared.TheConstants.{LEVELS_MAX}
use Rattle.context_model.specs.Atoms.{Atom}
use Rattle.context_model.specs.Kinds.{atom_of}
use Rattle.context_model.specs.Kinds.Kind.{Indexed}
use Rattle.context_model.specs.Paths.{atom_at}
use Rattle.bag_model.specs.Shapes.{Nodes, Field, fields}
use Rattle.bag_walks.specs.Parts.{StaysBelow, IsSegment}

-- The atom is the indexed header of this level and number.
pub record IsIndex (level : ℕ) (atom : Atom) (number : ℕ) : Type 0 where
  pub low : level < LEVELS_MAX
  pub wide : number < 2 ^ 64
  pub is : atom ≡ atom_of (Indexed level number)

-- The atom is the header of this level of the bag's field at this place, which is this one.
pub record IsFieldHeader (nodes : Nodes) (level : ℕ) (atom : Atom) (at : ℕ)
    (field : Field) : Type 0 where
  pub there : slice_get (fields nodes) at ≡ Some field
  pub is : atom ≡ atom_of (Indexed level field.number)

-- From the first place up to the second there is no header of this level of a field, and none of a
-- lesser level.
pub record PassesNoField (nodes : Nodes) (list : List Atom) (level from to : ℕ) : Type 0 where
  pub stays : StaysBelow list level from to
  pub none : (k at : ℕ) (field : Field) → from ≤ k → k < to
      → IsFieldHeader nodes level (atom_at list k) at field → ⊥

-- The next header of this level of a field, from a place on, is that of the field at this place,
-- and is right before the second place.
pub record IsFieldFound (nodes : Nodes) (list : List Atom) (level from at : ℕ) (field : Field)
    (behind : ℕ) : Type 0 where
  pub place : ℕ
  pub next : behind ≡ place + 1
  pub before : PassesNoField nodes list level from place
  pub within : place < length list
  pub header : IsFieldHeader nodes level (atom_at list place) at field

-- What is below, from a place on, ends at the second place, and there is no header of this level of
-- a field before that.
pub record HasNoField (nodes : Nodes) (list : List Atom) (level from stop : ℕ) : Type 0 where
  pub before : PassesNoField nodes list level from stop
  pub segment : IsSegment list level from stop
