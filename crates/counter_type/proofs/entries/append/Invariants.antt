use Rattle.std.proofs.Common.{◌≡◌, ◌++◌, take}
use Rattle.counter_type.proofs.entries.append.Given as goal

abbrev pub invariant-loop-key : goal.invariant-loop-key
invariant-loop-key g l = l.into.items ≡ l.fn.into.items ++ take l.key-index l.entries
