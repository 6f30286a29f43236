use Rattle.std.proofs.Common.{◌+◌, ◌-◌, ◌*◌, ◌≤◌, length, take}
use Rattle.atom_list.specs.Builder.{byte_room_for}
use Rattle.atom_list.proofs.lists.AtomList.room.Given as goal

abbrev pub invariant-loop-at : goal.invariant-loop-at
invariant-loop-at l = record {
  within : l.at ≤ length l.self;
  enough : byte_room_for (take l.at l.self) ≤ l.room;
  bound : l.room ≤ byte_room_for (take l.at l.self) + 2 * l.at;
}

abbrev pub decreases-loop-at : goal.decreases-loop-at
decreases-loop-at l = length l.self - l.at
