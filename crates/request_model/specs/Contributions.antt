-- Where the values of a request come from.
use Rattle.std.specs.Prelude.{◌≡◌, ℕ, List, [], ◌∷◌}
use Rattle.context_model.specs.Atoms.{Atom}
use Rattle.bag_model.specs.Readings.{SaysValues}
use Rattle.bag_model.specs.Shapes.{Nodes}
use Rattle.bag_model.specs.Slots.{SlotAt}
use Rattle.bag_model.specs.SlotValues.{HasSlot, only}
use Rattle.bag_model.specs.Values.{Value, Values, IsOfShape}
use Rattle.trace_model.specs.Graphs.{IsTypedContext}
use Rattle.step_calls.specs.Excerpts.{AreLikeSlots}
use Rattle.step_calls.specs.Lines.{Write}

-- A contribution to a request: a value that is written to a slot, or a context that is received from
-- outside.
pub data Contribution : Type 0 where
  Wrote : ℕ → Value → Contribution
  Received : List Atom → Contribution

-- A value is of the shape of its slot, which is one of the table, and a context is typed under it.
abbrev pub IsContribution : Nodes → Contribution → Type 0
IsContribution nodes (Wrote slot v) = (at : SlotAt) × HasSlot nodes slot at × IsOfShape at.shape v
IsContribution nodes (Received list) = IsTypedContext nodes list

-- A contribution says these values: a write its value at its slot, and a context what it says.
abbrev pub ContributionSays : Nodes → Contribution → Values → Type 0
ContributionSays nodes (Wrote slot v) vs = vs ≡ only nodes slot v
ContributionSays nodes (Received list) vs = SaysValues nodes list vs

-- Contributions say these values, one by one.
abbrev pub ContributionsSay : Nodes → List Contribution → List Values → Type 0
ContributionsSay nodes [] [] = Unit {0}
ContributionsSay nodes (one ∷ contributions) (vs ∷ said) = ContributionSays nodes one vs × ContributionsSay nodes contributions said
ContributionsSay nodes contributions said = ⊥

-- A write under an excerpt says its value of the slot of the table that is like its own.
pub record IsWriteTo (nodes excerpt : Nodes) (write : Write) (slot : ℕ) (v : Value) : Type 0 where
  pub at : SlotAt
  pub also : SlotAt
  pub there : HasSlot nodes slot at
  pub known : HasSlot excerpt write.0 also
  pub like : AreLikeSlots at also
  pub shape : IsOfShape at.shape v
  pub same : write.1 ≡ v

-- Writes under an excerpt are these contributions, one by one.
abbrev pub AreWritesTo : Nodes → Nodes → List Write → List Contribution → Type 0
AreWritesTo nodes excerpt [] [] = Unit {0}
AreWritesTo nodes excerpt (write ∷ writes) (Wrote slot v ∷ contributions) =
    IsWriteTo nodes excerpt write slot v × AreWritesTo nodes excerpt writes contributions
AreWritesTo nodes excerpt writes contributions = ⊥
