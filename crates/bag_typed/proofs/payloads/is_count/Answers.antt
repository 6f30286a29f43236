use Rattle.bag_typed.proofs.Spellings.{count_told, no_count}
use Rattle.bag_typed.proofs.payloads.is_count.Goals as goal

pub returns-in-Ok : goal.returns-in-Ok
returns-in-Ok c = count_told c.args.bytes.now c.take_u64.result c.take_u64.ensures.taken c.in-Ok.field-0-0 c.in-Ok.count c.in-Ok.is

pub returns-in-Err : goal.returns-in-Err
returns-in-Err c = (λ t. cc, λ is. absurd (no_count c.args.bytes.now c.take_u64.result c.take_u64.ensures.taken c.in-Err.field-0 c.in-Err.is is))
