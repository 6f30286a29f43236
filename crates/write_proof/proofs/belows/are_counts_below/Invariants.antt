use Rattle.std.proofs.Common.{◌≡◌, ℕ, ◌<◌, ◌≤◌, List, Some}
use Rattle.std.specs.List.{slice_get}
use Rattle.context_model.specs.KeyedMerge.{IsAt}
use Rattle.write_proof.proofs.belows.are_counts_below.Given as goal

abbrev pub invariant-loop-at : goal.invariant-loop-at
invariant-loop-at l = (k : ℕ) (writer : List ℕ) (n : ℕ) → k < l.at → slice_get l.ours k ≡ Some (writer, n) → (m : ℕ) × IsAt writer m l.theirs × (n ≤ m)
