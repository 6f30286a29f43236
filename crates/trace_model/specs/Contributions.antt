-- What each step contributes to one slot, and the truth there.
use Rattle.std.specs.Prelude.{◌≡◌, ◌≢◌, ◌⊎◌, ◌↔◌, ℕ, ◌<◌, length}
use Rattle.bag_model.specs.Shapes.{Shape, Nodes}
use Rattle.bag_model.specs.Values.{Value, bottom, IsOfShape}
use Rattle.bag_model.specs.Joins.{IsValueBelow}
use Rattle.bag_model.specs.Slots.{SlotAt}
use Rattle.bag_model.specs.SlotValues.{HasSlot, SaysSlot}
use Rattle.trace_model.specs.Graphs.{Act, Start, Recv, Set, Branch, Forward, Trim, Join, Graph, IsRecorded}
use Rattle.trace_model.specs.Truth.{IsReachedBy, IsTruthAt}

-- An act contributes this value to a slot: a write there its value, a received list what it says of
-- the slot, and all else bottom.
abbrev pub Contributes : ℕ → SlotAt → Act → Value → Type 0
Contributes slot at Start x = x ≡ bottom at.shape
Contributes slot at (Recv received) x = SaysSlot received at x
Contributes slot at (Set parent own v) x =
    ((own ≡ slot) × (x ≡ v)) ⊎ ((own ≢ slot) × (x ≡ bottom at.shape))
Contributes slot at (Branch parent) x = x ≡ bottom at.shape
Contributes slot at (Forward parent) x = x ≡ bottom at.shape
Contributes slot at (Trim parent budget) x = x ≡ bottom at.shape
Contributes slot at (Join parents) x = x ≡ bottom at.shape

-- Some step that reaches n contributes it.
abbrev pub IsContributed : Graph → ℕ → ℕ → SlotAt → Value → Type 0
IsContributed graph n slot at x = IsReachedBy graph n (λ step. Contributes slot at step.act x)

-- Of the values of a shape it is the least that says all that those say of which D holds: it is
-- their join, in whatever order they are joined.
pub record IsLeastAbove (shape : Shape) (D : Value → Type 0) (least : Value) : Type 0 where
  pub of_shape : IsOfShape shape least
  pub all : (x : Value) → D x → IsValueBelow x least
  pub lowest : (y : Value)
      → IsOfShape shape y → ((x : Value) → D x → IsValueBelow x y) → IsValueBelow least y

-- The truth of a slot at a step is the least value above all that the steps on the way contribute
-- to the slot.
abbrev pub TruthsAreContributed : Type 0
TruthsAreContributed = (nodes : Nodes) (graph : Graph) (n slot : ℕ) (at : SlotAt) (v : Value)
    → IsRecorded nodes graph → n < length graph.steps → HasSlot nodes slot at
    → IsTruthAt nodes graph n slot v ↔ IsLeastAbove at.shape (IsContributed graph n slot at) v
