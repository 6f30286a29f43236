use Rattle.std.proofs.Common.{◌≡◌, ◌++◌, take}
use Rattle.bag_value.proofs.joins.append.Given as goal

abbrev pub invariant-loop-entry : goal.invariant-loop-entry
invariant-loop-entry l = l.into.items ≡ l.fn.into.items ++ take l.entry-index l.entries
