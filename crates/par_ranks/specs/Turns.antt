-- When each step of a graph is run.
use Rattle.std.specs.Prelude.{◌≡◌, ℕ, ◌+◌, ◌*◌, ◌<◌, ◌≤◌, List, [], length, slice_index, slice_index_or}
use Rattle.context_model.specs.Orders.{IsIn}
use Rattle.trace_model.specs.Graphs.{Step, Graph, parents_of, HasStep}

-- A step has two turns at most for itself and each step before it.
abbrev pub AreLow : List ℕ → Type 0
AreLow turns = (n : ℕ) → n < length turns → slice_index turns n ≤ 2 * n + 1

-- The first steps of a graph have these turns: each comes after those of the step's parents.
pub record AreTurns (graph : Graph) (turns : List ℕ) : Type 0 where
  pub low : AreLow turns
  pub later : (n parent : ℕ) (step : Step) → n < length turns → HasStep graph n step
      → IsIn parent (parents_of step.act)
      → slice_index turns parent < slice_index turns n

-- The row of a turn, and no step where there is none.
abbrev pub row_at : List (List ℕ) → ℕ → List ℕ
row_at rows turn = slice_index_or rows turn []

-- The row of each turn has those of the first m steps that have the turn, and no others.
pub record AreRows (turns : List ℕ) (m : ℕ) (rows : List (List ℕ)) : Type 0 where
  pub own : (turn n : ℕ) → IsIn n (row_at rows turn) → (n < m) × (slice_index turns n ≡ turn)
  pub each : (n : ℕ) → n < m → IsIn n (row_at rows (slice_index turns n))

-- Each step of the graph is in the row of its turn, and in no other, and its turn comes after those
-- of its parents.
pub record IsPlan (graph : Graph) (rows : List (List ℕ)) : Type 0 where
  pub turn_of : ℕ → ℕ
  pub own : (turn n : ℕ) → IsIn n (row_at rows turn) → (n < length graph.steps) × (turn_of n ≡ turn)
  pub each : (n : ℕ) → n < length graph.steps → IsIn n (row_at rows (turn_of n))
  pub later : (n parent : ℕ) (step : Step) → HasStep graph n step
      → IsIn parent (parents_of step.act) → turn_of parent < turn_of n
