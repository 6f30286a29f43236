-- What steps contribute to a slot, as the code answers it.
use Rattle.std.specs.Prelude.{ℕ}
use Rattle.bag_model.specs.Shapes.{Shape, Nodes}
use Rattle.bag_model.specs.Slots.{SlotAt}
use Rattle.bag_model.specs.SlotValues.{HasSlot}
use Rattle.bag_model.specs.Values as model
use Rattle.bag_model.specs.Values.{bottom}
use Rattle.bag_value.specs.Vals.{plain}
use Rattle.trace_model.specs.Graphs.{Graph}
use Rattle.write_proof.specs.declared.contributions.Contribution.{Contribution}
use Rattle.write_proof.specs.declared.contributions.Contribution.TheVariants.{Nothing, Written, Received}
use Rattle.write_proof.specs.WholeRules.{StepContributes}

-- A contribution as a value of a shape: nothing is bottom.
abbrev pub contributed : Shape → Contribution → model.Value
contributed shape Nothing = bottom shape
contributed shape (Written v) = plain v.now
contributed shape (Received v) = plain v

-- The step contributes this value to the slot with this place of the table.
abbrev pub ContributesAt : Nodes → Graph → ℕ → ℕ → (Shape → model.Value) → Type 0
ContributesAt table graph slot step own =
    (at : SlotAt) → HasSlot table slot at → StepContributes graph slot at step (own at.shape)
