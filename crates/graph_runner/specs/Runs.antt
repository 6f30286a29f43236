-- Steps of one run that the same writes and received lists reach.
use Rattle.std.specs.Prelude.{◌≡◌, ℕ, ◌<◌, length}
use Rattle.context_model.specs.Ended.{HasMarker, IsEnded, field_path}
use Rattle.bag_model.specs.Shapes.{Nodes}
use Rattle.bag_model.specs.Values.{Value, Values}
use Rattle.bag_model.specs.Slots.{SlotAt}
use Rattle.bag_model.specs.SlotValues.{HasSlot, SaysSlot}
use Rattle.bag_model.specs.Readings.{SaysValues}
use Rattle.trace_model.specs.Graphs.{Graph}
use Rattle.trace_model.specs.Runs.{Lists, list_at}
use Rattle.trace_model.specs.Truth.{AreReachedBySame}

-- Two steps of the graph are reached by the same writes and received lists.
pub record AreAlikeSteps (graph : Graph) (n m : ℕ) : Type 0 where
  pub one : n < length graph.steps
  pub other : m < length graph.steps
  pub reached : AreReachedBySame graph n graph m

-- Steps that the same writes and received lists reach say the same, whatever the services know and
-- however the steps between are ordered and grouped: of a slot that is ended in both lists, and of
-- all fields where neither list has a marker.
pub record AlikeStepsAgree (nodes : Nodes) (graph : Graph) (lists : Lists) : Type 0 where
  pub slot : (n m place : ℕ) (at : SlotAt) (v w : Value)
      → AreAlikeSteps graph n m → HasSlot nodes place at
      → IsEnded (list_at lists n) (field_path at.numbers)
      → IsEnded (list_at lists m) (field_path at.numbers)
      → SaysSlot (list_at lists n) at v → SaysSlot (list_at lists m) at w
      → v ≡ w
  pub whole : (n m : ℕ) (vs ws : Values)
      → AreAlikeSteps graph n m
      → ¬ (HasMarker (list_at lists n)) → ¬ (HasMarker (list_at lists m))
      → SaysValues nodes (list_at lists n) vs → SaysValues nodes (list_at lists m) ws
      → vs ≡ ws
