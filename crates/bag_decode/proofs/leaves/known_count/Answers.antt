use Rattle.std.proofs.Common.{length, sym, ap, ◌∙◌}
use Rattle.context_model.specs.Varints.{unsigned_varint}
use Rattle.bag_decode.proofs.Known.{count_there, one_number}
use Rattle.bag_decode.proofs.leaves.known_count.Goals as goal

pub unreachable-requires : goal.unreachable-requires
unreachable-requires c =
    let (n, few, is) = c.requires in
    let ok = (c.take_u64.ensures.taken n (length (unsigned_varint n))).1 (count_there c.args.bytes.now n few is) in
    let clash = sym ok ∙ c.in-Err.is in
    cc clash

pub returns : goal.returns
returns c =
    let (n, few, is) = c.requires in
    let ok = (c.take_u64.ensures.taken n (length (unsigned_varint n))).1 (count_there c.args.bytes.now n few is) in
    is ∙ ap unsigned_varint (one_number c.take_u64.result n c.in-Ok.count (length (unsigned_varint n)) c.in-Ok.field-0-1 ok c.in-Ok.is)
