use Rattle.std.proofs.Common.{length}
use Rattle.field_writes.proofs.Quoted.{GivesBack, GoesOn}
use Rattle.field_writes.proofs.strings.take_bytes.Given as goal

abbrev pub invariant-bytes : goal.invariant-bytes
invariant-bytes l = record {
  back : GivesBack l.text l.bytes.items l.rest;
  forth : GoesOn l.text l.bytes.items l.rest;
}

abbrev pub decreases-bytes : goal.decreases-bytes
decreases-bytes l = length l.rest
