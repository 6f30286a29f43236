use Rattle.std.proofs.Common.{arith}
use Rattle.wire_bytes.proofs.Codings.{taken_code}
use Rattle.wire_bytes.proofs.reading.front_two.Goals as goal

pub returns-then-bytes-skip-clause-fault : goal.returns-then-bytes-skip-clause-fault
returns-then-bytes-skip-clause-fault c = (c.in_ok-len.len, c.in_ok-len.skip, c.in_ok-len.ensures.taken, c.in_ok-len.ensures.bound, omega (arith, c.in_ok-len.ensures.within))

pub returns-clause-code : goal.returns-clause-code
returns-clause-code c = taken_code c.args.bytes.now c.in_ok-len.len c.in_ok-len.skip c.in_ok-len.ensures.taken
