use Rattle.std.proofs.Common.{◌≡◌, ℕ, ◌<◌, [], Some, slice_get}
use Rattle.atom_list.proofs.contexts.Context.front_len.Given as goal

abbrev pub invariant-loop-at : goal.invariant-loop-at
invariant-loop-at l = (k : ℕ) → k < l.at → slice_get l.list k ≡ Some [] → ⊥
