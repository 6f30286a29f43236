-- Rows of children: for each step of a graph the steps that name it as a parent.
use Rattle.std.specs.Prelude.{◌≡◌, ◌⊎◌, ◌↔◌, ℕ, ◌<◌, List, [], length, slice_index_or}
use Rattle.context_model.specs.Orders.{IsIn}
use Rattle.trace_model.specs.Graphs.{Graph}
use Rattle.write_proof.specs.LineRules.{HasParent}

-- The row of the step with this number, and no child where there is none.
abbrev pub child_row_at : List (List ℕ) → ℕ → List ℕ
child_row_at rows w = slice_index_or rows w []

-- The child was added to the rows of these steps, and to no others.
pub record AreAdded (steps : List ℕ) (child : ℕ) (old new : List (List ℕ)) : Type 0 where
  pub as_many : length new ≡ length old
  pub each : (w c : ℕ)
      → IsIn c (child_row_at new w) ↔ (IsIn c (child_row_at old w) ⊎ ((c ≡ child) × IsIn w steps))

-- The row of each step has those of the first m steps that have it as a parent, and no others.
pub record AreRowsTo (graph : Graph) (m : ℕ) (rows : List (List ℕ)) : Type 0 where
  pub as_many : length rows ≡ length graph.steps
  pub each : (w c : ℕ) → IsIn c (child_row_at rows w) ↔ ((c < m) × HasParent graph c w)
