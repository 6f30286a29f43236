use Rattle.std.proofs.Common.{sym, ◌∙◌, arith}
use Rattle.scalar_types.proofs.ListOrder.{lists_cmp-ends}
use Rattle.scalar_types.proofs.scalars.order_of_lists.Goals as goal

pub returns : goal.returns
returns c = c.cmp.ensures ∙ sym (lists_cmp-ends c.loop-at.at c.args.these.now c.args.those.now (omega arith)) ∙ c.loop-at.invariant
