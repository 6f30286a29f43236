use Rattle.std.proofs.Common.{◌≡◌, ◌≤◌, length, take}
use Rattle.par_ranks.proofs.Putting.{ArePutFrom}
use Rattle.par_ranks.proofs.rows.put.Given as goal

abbrev pub invariant-loop-list : goal.invariant-loop-list
invariant-loop-list l = record {
  few : length l.made.items ≤ length l.fn.made.items;
  front : l.made.items ≡ take (length l.made.items) l.fn.made.items;
  put : ArePutFrom (length l.made.items) l.steps l.fn.made.items l.fn.lists.items l.lists.items;
}

abbrev pub decreases-loop-list : goal.decreases-loop-list
decreases-loop-list l = length l.made.items
