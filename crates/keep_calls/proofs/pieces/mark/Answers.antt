use Rattle.std.proofs.Common.{◌-◌, ◌∙◌, ap, Some, arith}
use Rattle.keep_calls.proofs.SlotSteps.{numbers_small}
use Rattle.keep_calls.proofs.pieces.mark.Goals as goal

pub push_next_headers-requires-clause-small : goal.push_next_headers-requires-clause-small
push_next_headers-requires-clause-small c =
    numbers_small c.args.table.now (c.args.slot - 1) c.as_slice.result.now c.nodes.ensures.table (omega (arith, c.requires, c.if-slot-gt0.true))
    (ap Some c.as_slice.ensures.numbers ∙ c.numbers-before.ensures)
