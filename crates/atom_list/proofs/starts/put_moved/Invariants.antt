use Rattle.std.proofs.Common.{◌≡◌, ◌+◌, ◌++◌, map, take}
use Rattle.std.specs.Vec.{vec_len, vec_capacity}
use Rattle.atom_list.specs.Starts.{moved}
use Rattle.atom_list.proofs.starts.put_moved.Given as goal

abbrev pub invariant-loop-start : goal.invariant-loop-start
invariant-loop-start l = record {
  items : l.starts.items ≡ l.initial.starts.items ++ map (moved l.from l.to) (take l.start-index l.more);
  len : vec_len l.starts ≡ vec_len l.initial.starts + l.start-index;
  capacity : vec_capacity l.starts ≡ vec_capacity l.initial.starts;
}
