-- Steps that are marked.
use Rattle.std.specs.Prelude.{◌≡◌, ◌↔◌, ℕ, Bool, true, false, List, slice_index_or}
use Rattle.context_model.specs.Orders.{IsIn}

-- The step with this number is marked.
abbrev pub IsMarked : List Bool → ℕ → Type 0
IsMarked marks step = slice_index_or marks step false ≡ true

-- Exactly these steps are marked.
abbrev pub AreMarksOf : List Bool → List ℕ → Type 0
AreMarksOf marks steps = (step : ℕ) → IsMarked marks step ↔ IsIn step steps
