use Rattle.std.proofs.Common.{◌≡◌, ℕ, ◌<◌, ◌≤◌, []}
use Rattle.context_model.specs.Paths.{atom_at}
use Rattle.keep_calls.proofs.gaps.has_marker.Given as goal

abbrev pub invariant-loop-at : goal.invariant-loop-at
invariant-loop-at l = (place : ℕ) → l.from ≤ place → place < l.at → atom_at l.list place ≡ [] → ⊥
