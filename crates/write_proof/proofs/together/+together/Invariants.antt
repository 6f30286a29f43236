use Rattle.std.proofs.Common.{◌≡◌, ℕ, ◌+◌, ◌*◌, ◌<◌, Some}
use Rattle.std.specs.List.{slice_get}
use Rattle.bag_model.specs.Scalars.{ScalarValue}
use Rattle.bag_model.specs.Values.{Value, pairs, values_list, value_count, value_count_of_entries, value_count_of_values}
use Rattle.bag_value.specs.Vals.{plain}
use Rattle.write_proof.specs.Together.{values_of}
use Rattle.write_proof.proofs.TogetherCalls.{IsEntrySaid, IsFieldSaid}
use Rattle.write_proof.proofs.together.+together.Given as goal

abbrev pub decreases-is_said_by : goal.decreases-is_said_by
decreases-is_said_by l = 2 * value_count (plain l.value.now)

abbrev pub decreases-are_entries_said : goal.decreases-are_entries_said
decreases-are_entries_said l = 2 * value_count_of_entries l.entries.now + 1

abbrev pub decreases-are_values_said : goal.decreases-are_values_said
decreases-are_values_said l = 2 * value_count_of_values l.values.now + 1

abbrev pub invariant-are_entries_said-loop-entry : goal.invariant-are_entries_said-loop-entry
invariant-are_entries_said-loop-entry l = (k : ℕ) (key : ScalarValue) (v : Value) → k < l.entry-index → slice_get (pairs l.entries) k ≡ Some (key, v) → IsEntrySaid key v (values_of l.others)

abbrev pub invariant-are_values_said-loop-at : goal.invariant-are_values_said-loop-at
invariant-are_values_said-loop-at l = (k : ℕ) (v : Value) → k < l.at → slice_get (values_list l.values) k ≡ Some v → IsFieldSaid k v (values_of l.others)
