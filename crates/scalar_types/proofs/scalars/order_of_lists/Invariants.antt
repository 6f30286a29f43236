use Rattle.std.proofs.Common.{◌≡◌, drop}
use Rattle.scalar_types.proofs.ListOrder.{lists_cmp}
use Rattle.scalar_types.proofs.scalars.order_of_lists.Given as goal

abbrev pub invariant-loop-at : goal.invariant-loop-at
invariant-loop-at l = lists_cmp (drop l.at l.these) (drop l.at l.those) ≡ lists_cmp l.these l.those
