use Rattle.std.proofs.Common.{Err, ap, ◌∙◌}
use Rattle.scalar_types.specs.KindViews.{kind_of}
use Rattle.scalar_types.proofs.KindSpelled.{spelling_told}
use Rattle.bag_decode.proofs.leaves.take_known.Goals as goal

pub unreachable-requires : goal.unreachable-requires
unreachable-requires c =
    c.take.ensures.refused (c.in-Err-NotSpelled.is ∙ ap Err c.in-Err-NotSpelled.field-0-is) ((spelling_told (kind_of c.args.kind.now) c.args.bytes.now).1 c.requires)
