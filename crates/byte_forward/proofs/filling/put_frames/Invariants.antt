use Rattle.byte_forward.proofs.Walks.{IsFilled}
use Rattle.byte_forward.proofs.filling.put_frames.Given as goal

abbrev pub invariant-loop-piece : goal.invariant-loop-piece
invariant-loop-piece l = IsFilled l.written l.fn.cut l.cut l.at l.initial.room l.room

abbrev pub decreases-loop-piece : goal.decreases-loop-piece
decreases-loop-piece l = l.cut.left
