use Rattle.std.proofs.Common.{◌≡◌, length}
use Rattle.accessor_gen.proofs.Found.{EachAtPlace}
use Rattle.accessor_gen.proofs.finding.accessors.Given as goal

abbrev pub invariant-loop-slot : goal.invariant-loop-slot
invariant-loop-slot l = record { count : length l.made.items ≡ l.slot; each : EachAtPlace l.table l.made.items }
