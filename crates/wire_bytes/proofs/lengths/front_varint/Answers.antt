use Rattle.wire_bytes.proofs.Codings.{taken_within}
use Rattle.wire_bytes.proofs.lengths.front_varint.Goals as goal

pub returns-in-Ok-clause-within : goal.returns-in-Ok-clause-within
returns-in-Ok-clause-within c = taken_within c.args.bytes.now c.in-Ok.len c.in-Ok.count ((c.take_u64.ensures.taken c.in-Ok.len c.in-Ok.count).0 c.in-Ok.is)

pub returns-in-Ok-2-clause-fault : goal.returns-in-Ok-2-clause-fault
returns-in-Ok-2-clause-fault c = (c.in-Ok.len, c.in-Ok.count, (c.take_u64.ensures.taken c.in-Ok.len c.in-Ok.count).0 c.in-Ok.is, c.if-len.false)

pub returns-in-Ok-clause-taken : goal.returns-in-Ok-clause-taken
returns-in-Ok-clause-taken c = (c.take_u64.ensures.taken c.in-Ok.len c.in-Ok.count).0 c.in-Ok.is
