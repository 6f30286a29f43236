-- What the list of a step tells of the truth.
use Rattle.std.specs.Prelude.{◌≡◌, ◌↔◌, ℕ, ◌<◌, [], length}
use Rattle.context_model.specs.Orders.{Path, IsIn}
use Rattle.context_model.specs.WellFormed.{IsWellFormed}
use Rattle.context_model.specs.Ended.{HasMarker, IsEnded, field_path}
use Rattle.bag_model.specs.Shapes.{Nodes}
use Rattle.bag_model.specs.Values.{Value, Values}
use Rattle.bag_model.specs.Joins.{IsValueBelow}
use Rattle.bag_model.specs.Slots.{SlotAt}
use Rattle.bag_model.specs.SlotValues.{HasSlot, SaysSlot}
use Rattle.bag_model.specs.Readings.{PathsOf, SaysValues}
use Rattle.bag_model.specs.Typed.{AreTyped}
use Rattle.bag_model.specs.Encodings.{IsForeign}
use Rattle.trace_model.specs.Graphs.{Step, Graph, parents_of, HasStep, IsRecorded}
use Rattle.trace_model.specs.Runs.{Lists, list_at, IsRun}
use Rattle.trace_model.specs.Truth.{IsTruth, IsTruthAt, WasCut, IsForeignOf, AreReachedAlike}

-- A step of the run of a sound graph of a table.
pub record IsRunStep (nodes : Nodes) (graph : Graph) (lists : Lists) (n : ℕ) : Type 0 where
  pub recorded : IsRecorded nodes graph
  pub run : IsRun nodes graph lists
  pub within : n < length graph.steps

-- What the list of step n says, whatever the services know: it is well formed and typed, and has a
-- marker exactly where something was cut off on the way. What it says of a slot is the truth there
-- where the slot is ended, and never more than the truth. Without a marker all that it says is the
-- truth, and the paths that the table doesn't name are those received; with one there are no
-- others.
pub record IsFaithful (nodes : Nodes) (graph : Graph) (lists : Lists) (n : ℕ) : Type 0 where
  pub well_formed : IsWellFormed (list_at lists n)
  pub typed : AreTyped nodes (PathsOf (list_at lists n)) []
  pub marked : HasMarker (list_at lists n) ↔ WasCut graph lists n
  pub exact : (slot : ℕ) (at : SlotAt) (v : Value)
      → HasSlot nodes slot at → SaysSlot (list_at lists n) at v
      → IsEnded (list_at lists n) (field_path at.numbers) → IsTruthAt nodes graph n slot v
  pub below : (slot : ℕ) (at : SlotAt) (v : Value)
      → HasSlot nodes slot at → SaysSlot (list_at lists n) at v
      → (truth : Value) × IsTruthAt nodes graph n slot truth × IsValueBelow v truth
  pub whole : ¬ (HasMarker (list_at lists n)) → (vs : Values)
      → SaysValues nodes (list_at lists n) vs → IsTruth nodes graph n vs
  pub received : (p : Path)
      → IsForeign nodes (list_at lists n) p → IsForeignOf nodes graph n p
  pub foreign : ¬ (HasMarker (list_at lists n)) → (p : Path)
      → IsForeign nodes (list_at lists n) p ↔ IsForeignOf nodes graph n p

-- The lists of a run are faithful.
abbrev pub RunsAreFaithful : Type 0
RunsAreFaithful = (nodes : Nodes) (graph : Graph) (lists : Lists) (n : ℕ)
    → IsRunStep nodes graph lists n → IsFaithful nodes graph lists n

-- A slot that is ended in the list of a step is ended in the list of each of its parents.
abbrev pub EndsInParents : Type 0
EndsInParents = (nodes : Nodes) (graph : Graph) (lists : Lists) (n parent slot : ℕ)
    → (step : Step) (at : SlotAt) → IsRunStep nodes graph lists n → HasStep graph n step
    → IsIn parent (parents_of step.act) → HasSlot nodes slot at
    → IsEnded (list_at lists n) (field_path at.numbers)
    → IsEnded (list_at lists parent) (field_path at.numbers)

-- Two steps that are reached alike say the same, whatever the services know and however the steps
-- are ordered and grouped: of a slot that is ended at both, and of all fields where neither list
-- has a marker.
pub record AlikeStepsSayTheSame : Type 0 where
  pub whole : (nodes : Nodes) (graph other : Graph) (lists others : Lists) (n m : ℕ)
      → (vs ws : Values) → IsRunStep nodes graph lists n → IsRunStep nodes other others m
      → AreReachedAlike nodes graph n other m
      → ¬ (HasMarker (list_at lists n)) → ¬ (HasMarker (list_at others m))
      → SaysValues nodes (list_at lists n) vs → SaysValues nodes (list_at others m) ws
      → vs ≡ ws
  pub slot : (nodes : Nodes) (graph other : Graph) (lists others : Lists) (n m place : ℕ)
      → (at : SlotAt) (v w : Value)
      → IsRunStep nodes graph lists n → IsRunStep nodes other others m
      → AreReachedAlike nodes graph n other m → HasSlot nodes place at
      → IsEnded (list_at lists n) (field_path at.numbers)
      → IsEnded (list_at others m) (field_path at.numbers)
      → SaysSlot (list_at lists n) at v → SaysSlot (list_at others m) at w
      → v ≡ w
