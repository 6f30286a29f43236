use Rattle.std.proofs.Common.{◌≡◌, ℕ, ◌<◌, List, Some}
use Rattle.std.specs.List.{slice_get}
use Rattle.write_proof.specs.Together.{IsSaid, CountsTo, values_of}
use Rattle.write_proof.proofs.together.are_counts_said.Given as goal

abbrev pub invariant-loop-at : goal.invariant-loop-at
invariant-loop-at l = (k : ℕ) (writer : List ℕ) (n : ℕ) → k < l.at → slice_get l.counts k ≡ Some (writer, n) → IsSaid (CountsTo writer n) (values_of l.others)
