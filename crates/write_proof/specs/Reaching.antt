-- How the steps on the way to a step are found, from that step down.
use Rattle.std.specs.Prelude.{◌≡◌, ◌≢◌, ◌⊎◌, ℕ, suc, ◌≤◌, List, length, map, slice_index_or, Option, Some, None}
use Rattle.context_model.specs.Orders.{IsIn}
use Rattle.trace_model.specs.Graphs.{Graph}
use Rattle.trace_model.specs.Truth.{Reaches}
use Rattle.write_proof.specs.declared.reaching.Reach.{Reach}
use Rattle.write_proof.specs.LineRules.{HasParent}

-- The child that is kept for a step.
abbrev pub child_at : List (Option ℕ) → ℕ → Option ℕ
child_at children w = slice_index_or children w None

-- The child of these steps is this one, and those of others are unchanged.
pub record AreMarked (steps : List ℕ) (child : ℕ) (old new : List (Option ℕ)) : Type 0 where
  pub as_many : length new ≡ length old
  pub marked : (w : ℕ) → IsIn w steps → child_at new w ≡ Some child
  pub others : (w : ℕ) → (IsIn w steps → ⊥) → child_at new w ≡ child_at old w

-- Of the children of w that reach n and aren't before `from` this is the least, or there is none.
abbrev pub IsLeastFrom : Graph → ℕ → ℕ → ℕ → Option ℕ → Type 0
IsLeastFrom graph n from w None =
    (child : ℕ) → from ≤ child → HasParent graph child w → Reaches graph child n → ⊥
IsLeastFrom graph n from w (Some child) =
    (from ≤ child) × HasParent graph child w × Reaches graph child n
    × ((other : ℕ) → from ≤ other → HasParent graph other w → Reaches graph other n → child ≤ other)

-- The children of all steps up to n, as far as they aren't before `from`.
pub record AreChildren (graph : Graph) (n from : ℕ) (children : List (Option ℕ)) : Type 0 where
  pub as_many : length children ≡ suc n
  pub each : (w : ℕ) → w ≤ n → IsLeastFrom graph n from w (child_at children w)

-- The step is the last, or has a child.
abbrev pub IsOnWay : List (Option ℕ) → ℕ → ℕ → Type 0
IsOnWay children last w = (w ≡ last) ⊎ (child_at children w ≢ None)

-- Steps with their children.
abbrev pub pairs_of : List Reach → List (ℕ × ℕ)
pairs_of reaching = map (λ reach. (reach.step, reach.child)) reaching
