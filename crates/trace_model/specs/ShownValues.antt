-- What is shown of a slot.
use Rattle.std.specs.Prelude.{◌↔◌, ℕ, Bool, IsTrue, List}
use Rattle.context_model.specs.Atoms.{Atom}
use Rattle.context_model.specs.Ended.{HasMarker, IsEnded, field_path}
use Rattle.bag_model.specs.Shapes.{Nodes}
use Rattle.bag_model.specs.Values.{Value}
use Rattle.bag_model.specs.Joins.{IsValueBelow}
use Rattle.bag_model.specs.Slots.{SlotAt}
use Rattle.bag_model.specs.SlotValues.{HasSlot, SaysSlot}
use Rattle.trace_model.specs.Graphs.{Graph}
use Rattle.trace_model.specs.Runs.{Lists, list_at}
use Rattle.trace_model.specs.Truth.{IsTruthAt, WasCut}
use Rattle.trace_model.specs.Faithful.{IsRunStep}

-- The value is what the list says of the slot, and it is called exact where the slot is ended in
-- the list.
pub record IsShown (nodes : Nodes) (list : List Atom) (slot : ℕ)
    (exact : Bool) (v : Value) : Type 0 where
  pub at : SlotAt
  pub there : HasSlot nodes slot at
  pub ended : IsTrue exact ↔ IsEnded list (field_path at.numbers)
  pub says : SaysSlot list at v

-- A value that is called exact is the truth at the slot; no value says more than the truth; and
-- where nothing was cut off on the way, so that the list has no marker, it is called exact.
pub record IsHonest (nodes : Nodes) (graph : Graph) (lists : Lists) (n slot : ℕ)
    (exact : Bool) (v : Value) : Type 0 where
  pub truth : IsTrue exact → IsTruthAt nodes graph n slot v
  pub below : (truth : Value) × IsTruthAt nodes graph n slot truth × IsValueBelow v truth
  pub uncut : ¬ (WasCut graph lists n) → IsTrue exact
  pub unmarked : ¬ (HasMarker (list_at lists n)) → IsTrue exact

-- What is shown of the list of a step is honest.
abbrev pub ShownIsHonest : Type 0
ShownIsHonest = (nodes : Nodes) (graph : Graph) (lists : Lists) (n slot : ℕ)
    → (exact : Bool) (v : Value) → IsRunStep nodes graph lists n
    → IsShown nodes (list_at lists n) slot exact v
    → IsHonest nodes graph lists n slot exact v
