use Rattle.std.proofs.Common.{◌≡◌, ◌++◌, map, take}
use Rattle.std.specs.List.{flat_map}
use Rattle.write_proof.specs.Entries.{Uses, entry_line}
use Rattle.write_proof.proofs.certificates.put_used.Given as goal

abbrev pub invariant-loop-step : goal.invariant-loop-step
invariant-loop-step l = l.into.items ≡ l.initial.into.items ++ flat_map entry_line (map Uses (take l.step-index l.steps))
