use Rattle.std.proofs.Common.{◌≡◌, ℕ, ◌+◌, ◌*◌, ◌<◌, Some}
use Rattle.std.specs.List.{slice_get}
use Rattle.context_model.specs.KeyedMerge.{IsAt}
use Rattle.bag_model.specs.Joins.{IsValueBelow}
use Rattle.bag_model.specs.Scalars.{ScalarValue}
use Rattle.bag_model.specs.Values.{Value, pairs, values_list, value_count, value_count_of_entries, value_count_of_values}
use Rattle.bag_value.specs.Vals.{plain}
use Rattle.write_proof.proofs.belows.+below.Given as goal

abbrev pub decreases-is_below : goal.decreases-is_below
decreases-is_below l = 2 * value_count (plain l.value.now)

abbrev pub decreases-are_entries_below : goal.decreases-are_entries_below
decreases-are_entries_below l = 2 * value_count_of_entries l.ours.now + 1

abbrev pub decreases-are_values_below : goal.decreases-are_values_below
decreases-are_values_below l = 2 * value_count_of_values l.ours.now + 1

abbrev pub invariant-are_entries_below-loop-entry : goal.invariant-are_entries_below-loop-entry
invariant-are_entries_below-loop-entry l = (k : ℕ) (key : ScalarValue) (v : Value) → k < l.entry-index → slice_get (pairs l.ours) k ≡ Some (key, v)
    → (w : Value) × IsAt key w (pairs l.theirs) × IsValueBelow v w

abbrev pub invariant-are_values_below-loop-at : goal.invariant-are_values_below-loop-at
invariant-are_values_below-loop-at l = (k : ℕ) (v w : Value) → k < l.at → slice_get (values_list l.ours) k ≡ Some v → slice_get (values_list l.theirs) k ≡ Some w → IsValueBelow v w
