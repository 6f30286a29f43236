use Rattle.std.proofs.Common.{◌≡◌, ◌+◌, ◌-◌, ◌≤◌, ◌++◌, length, map, drop}
use Rattle.bag_value.specs.Vals.{pair_of}
use Rattle.bag_value.proofs.Merging.{rest_brought}
use Rattle.bag_value.proofs.merges.brought.Given as goal

abbrev pub invariant-loop-i : goal.invariant-loop-i
invariant-loop-i l = record {
  within_ours : l.i ≤ length l.ours;
  within_theirs : l.j ≤ length l.theirs;
  so_far : map pair_of l.news.items ++ rest_brought (drop l.i l.ours) (drop l.j l.theirs) ≡ rest_brought l.ours l.theirs;
}

abbrev pub decreases-loop-i : goal.decreases-loop-i
decreases-loop-i l = (length l.ours - l.i) + (length l.theirs - l.j)
