use Rattle.std.proofs.Common.{◌≡◌, length, map, take}
use Rattle.write_proof.specs.Marks.{AreMarksOf}
use Rattle.write_proof.specs.Views.{entry_of}
use Rattle.write_proof.specs.WholeRules.{reached}
use Rattle.write_proof.proofs.marks.reached_marks.Given as goal

abbrev pub invariant-loop-entry : goal.invariant-loop-entry
invariant-loop-entry l = record {
  long : length l.marks.items ≡ l.steps;
  marked : AreMarksOf l.marks.items (reached (map entry_of (take l.entry-index l.entries)));
}
