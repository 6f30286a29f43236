use Rattle.std.proofs.Common.{length}
use Rattle.header_calls.specs.Values.{AreReadSoFar, parts_left}
use Rattle.header_calls.proofs.values.read_values.Given as goal

-- The parts that are past were read.
abbrev pub invariant-loop-part : goal.invariant-loop-part
invariant-loop-part l = AreReadSoFar (parts_left l.initial.parts) (parts_left l.parts) l.contexts.items l.count

abbrev pub decreases-loop-part : goal.decreases-loop-part
decreases-loop-part l = length (parts_left l.parts)
