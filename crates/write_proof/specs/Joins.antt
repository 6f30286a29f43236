-- Joins of what steps contribute.
use Rattle.std.specs.Prelude.{ℕ, List}
use Rattle.bag_model.specs.Shapes.{Nodes}
use Rattle.bag_model.specs.Slots.{SlotAt}
use Rattle.bag_model.specs.SlotValues.{HasSlot}
use Rattle.bag_model.specs.Values.{Value}
use Rattle.trace_model.specs.Contributions.{IsLeastAbove}
use Rattle.trace_model.specs.Graphs.{Graph}
use Rattle.write_proof.specs.WholeRules.{IsOfSteps}

-- The value is the join of what the steps contribute to the slot with this place of the table.
abbrev pub IsJoinAt : Nodes → Graph → ℕ → List ℕ → Value → Type 0
IsJoinAt table graph slot steps joined =
    (at : SlotAt) → HasSlot table slot at
    → IsLeastAbove at.shape (IsOfSteps graph slot at steps) joined
