use Rattle.std.proofs.Common.{◌≡◌, ◌++◌, length}
use Rattle.context_model.specs.Framing.{frames, AreWithin}
use Rattle.wire_bytes.proofs.reading.read_frames.Given as goal

abbrev pub invariant-loop-scan : goal.invariant-loop-scan
invariant-loop-scan l = record {
  split : l.fn.bytes.items ≡ frames l.form l.scan.atoms ++ l.scan.rest;
  within : AreWithin l.form l.scan.atoms;
}

abbrev pub decreases-loop-scan : goal.decreases-loop-scan
decreases-loop-scan l = length l.scan.rest
