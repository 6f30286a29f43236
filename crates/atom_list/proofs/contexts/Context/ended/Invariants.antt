use Rattle.std.proofs.Common.{◌≡◌, ℕ, ◌<◌, [], Some, slice_get, length, map, slice_index}
use Rattle.context_model.proofs.Beyond.{headers_of}
use Rattle.atom_list.specs.OpenPlaces.{atom_at, path_before}
use Rattle.atom_list.proofs.contexts.Context.ended.Given as goal

abbrev pub invariant-loop-at : goal.invariant-loop-at
invariant-loop-at l = record {
  unmarked : (k : ℕ) → k < l.at → slice_get l.list k ≡ Some [] → ⊥;
  open_headers : map (atom_at l.list) l.headers ≡ headers_of (path_before l.list l.at);
  within : (k : ℕ) → k < length l.headers → slice_index l.headers k < length l.list;
}
