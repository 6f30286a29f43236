use Rattle.std.proofs.Common.{◌≡◌, ◌+◌, ◌-◌, ◌*◌, ◌≤◌, ◌++◌, length, map, drop}
use Rattle.bag_model.specs.Joins.{AreAlike}
use Rattle.bag_model.specs.Values.{value_count, value_count_of_entries, value_count_of_values}
use Rattle.bag_value.specs.Vals.{plain, plain_values, pair_of}
use Rattle.bag_value.proofs.Joining.{rest_merged, rest_joined}
use Rattle.bag_value.proofs.+join.Given as goal

abbrev pub decreases-vals::Val::joined : goal.decreases-vals::Val::joined
decreases-vals::Val::joined l = 2 * value_count (plain l.self.now)

abbrev pub decreases-lists::Entries::joined : goal.decreases-lists::Entries::joined
decreases-lists::Entries::joined l = 2 * value_count_of_entries l.self.now + 1

abbrev pub decreases-lists::Vals::joined : goal.decreases-lists::Vals::joined
decreases-lists::Vals::joined l = 2 * value_count_of_values l.self.now + 1

abbrev pub invariant-lists::Entries::joined-loop-i : goal.invariant-lists::Entries::joined-loop-i
invariant-lists::Entries::joined-loop-i l = record {
  first : l.i ≤ length l.ours;
  second : l.j ≤ length l.theirs;
  so_far : map pair_of l.items.items ++ rest_merged (drop l.i l.ours) (drop l.j l.theirs) ≡ rest_merged l.ours l.theirs;
}

abbrev pub decreases-lists::Entries::joined-loop-i : goal.decreases-lists::Entries::joined-loop-i
decreases-lists::Entries::joined-loop-i l = (length l.ours - l.i) + (length l.theirs - l.j)

abbrev pub invariant-lists::Vals::joined-loop-at : goal.invariant-lists::Vals::joined-loop-at
invariant-lists::Vals::joined-loop-at l = record {
  alike : AreAlike (plain_values (drop l.at l.ours)) (plain_values (drop l.at l.theirs));
  so_far : map plain l.items.items ++ rest_joined (drop l.at l.ours) (drop l.at l.theirs) ≡ rest_joined l.ours l.theirs;
}
