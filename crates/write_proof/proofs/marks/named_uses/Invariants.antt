use Rattle.std.proofs.Common.{◌≡◌, map, take}
use Rattle.write_proof.specs.Views.{entry_of}
use Rattle.write_proof.specs.WholeRules.{used}
use Rattle.write_proof.proofs.marks.named_uses.Given as goal

abbrev pub invariant-loop-entry : goal.invariant-loop-entry
invariant-loop-entry l = l.steps.items ≡ used (map entry_of (take l.entry-index l.entries))
