use Rattle.std.proofs.Common.{arith}
use Rattle.std.proofs.lemmas.Bool.Decides.{nat_tests}
use Rattle.context_model.proofs.LengthCodes.{wire_code-length}
use Rattle.wire_bytes.proofs.reading.front_one.Goals as goal

pub returns-then-rest-len-clause-fault : goal.returns-then-rest-len-clause-fault
returns-then-rest-len-clause-fault c =
    let read = c.in_ok-len.ensures in
    rw (read.found, wire_code-length c.in_ok-len.len c.in_ok-len.rest.now read.bound) (grind (arith, nat_tests))
