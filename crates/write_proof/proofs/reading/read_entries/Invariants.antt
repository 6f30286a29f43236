use Rattle.std.proofs.Common.{◌+◌, ◌≤◌, length, map}
use Rattle.write_proof.specs.Views.{entry_of}
use Rattle.write_proof.proofs.LineByLine.{HasSaid}
use Rattle.write_proof.proofs.reading.read_entries.Given as goal

abbrev pub invariant-loop-line : goal.invariant-loop-line
invariant-loop-line l = record {
  said : HasSaid l.table l.graph l.certificate l.rest (map entry_of l.entries.items);
  few : length l.entries.items + length l.rest ≤ length l.certificate;
}

abbrev pub decreases-loop-line : goal.decreases-loop-line
decreases-loop-line l = length l.rest
