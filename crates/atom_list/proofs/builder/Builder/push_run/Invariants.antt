use Rattle.std.proofs.Common.{◌≡◌, ◌+◌, ◌-◌, ◌≤◌, ◌++◌, slice_range}
use Rattle.atom_list.specs.Builder.{byte_room_for}
use Rattle.atom_list.proofs.builder.Builder.push_run.Given as goal

abbrev pub invariant-loop-at : goal.invariant-loop-at
invariant-loop-at l = record {
  order : l.from ≤ l.at;
  within : l.at ≤ l.to;
  atoms : l.self.atoms ≡ l.fn.self.atoms ++ slice_range l.list l.from l.at;
  byte_room : l.fn.self.byte_room ≤ l.self.byte_room + byte_room_for (slice_range l.list l.from l.at);
  atom_room : l.self.atom_room + l.at ≡ l.fn.self.atom_room + l.from;
}

abbrev pub decreases-loop-at : goal.decreases-loop-at
decreases-loop-at l = l.to - l.at
