use Rattle.atom_list.specs.Starts.{IsFrameRow}
use Rattle.atom_list.proofs.starts.row_of.Given as goal

abbrev pub invariant-loop-count : goal.invariant-loop-count
invariant-loop-count l = IsFrameRow l.bytes l.starts l.count l.end
