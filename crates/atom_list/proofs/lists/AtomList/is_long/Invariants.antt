use Rattle.std.proofs.Common.{◌≡◌, false, take}
use Rattle.context_model.specs.Framing.{has_long}
use Rattle.atom_list.specs.Starts.{atoms_at}
use Rattle.atom_list.proofs.lists.AtomList.is_long.Given as goal

abbrev pub invariant-loop-start : goal.invariant-loop-start
invariant-loop-start l = has_long (atoms_at l.bytes (take l.start-index l.start-items)) ≡ false
