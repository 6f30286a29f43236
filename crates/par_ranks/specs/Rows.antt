-- What is run in one turn: the lists of a row of steps.
use Rattle.std.specs.Prelude.{◌≡◌, ℕ, ◌<◌, List, length, slice_index}
use Rattle.context_model.specs.Atoms.{Atom}
use Rattle.context_model.specs.Orders.{IsIn}
use Rattle.bag_model.specs.Shapes.{Nodes}
use Rattle.trace_model.specs.Graphs.{Step, Graph, parents_of, HasStep}
use Rattle.trace_model.specs.Runs.{Lists, list_at, StepGives}

-- The list is what step n gives, where the other steps have these lists.
abbrev pub IsGiven : Nodes → Graph → Lists → ℕ → List Atom → Type 0
IsGiven nodes graph lists n list =
    (step : Step) → HasStep graph n step → StepGives nodes graph lists step list

-- The row has steps of the graph, and none of them is a parent of another.
pub record AreIndependent (graph : Graph) (row : List ℕ) : Type 0 where
  pub within : (n : ℕ) → IsIn n row → n < length graph.steps
  pub apart : (n parent : ℕ) (step : Step) → IsIn n row → HasStep graph n step
      → IsIn parent (parents_of step.act) → ¬ (IsIn parent row)

-- Each list is what the step at its place gives, where the steps have the lists.
pub record AreMade (nodes : Nodes) (graph : Graph) (lists : Lists) (steps : List ℕ)
    (made : Lists) : Type 0 where
  pub as_many : length made ≡ length steps
  pub each : (k : ℕ) → k < length steps
      → IsGiven nodes graph lists (slice_index steps k) (list_at made k)

-- Lists were put to steps: a list for each of them, and all other steps have the lists that they
-- had.
pub record ArePut (steps : List ℕ) (made old new : Lists) : Type 0 where
  pub as_many : length new ≡ length old
  pub put : (n : ℕ) → IsIn n steps
      → (k : ℕ) × (k < length steps) × (slice_index steps k ≡ n) × (list_at new n ≡ list_at made k)
  pub kept : (n : ℕ) → ¬ (IsIn n steps) → list_at new n ≡ list_at old n

-- A row was run: each of its steps has the list that it gives, and all other steps have the lists
-- that they had.
pub record IsRowRun (nodes : Nodes) (graph : Graph) (row : List ℕ) (old new : Lists) : Type 0 where
  pub as_many : length new ≡ length old
  pub given : (n : ℕ) → IsIn n row → IsGiven nodes graph new n (list_at new n)
  pub kept : (n : ℕ) → ¬ (IsIn n row) → list_at new n ≡ list_at old n
