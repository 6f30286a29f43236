use Rattle.std.proofs.Common.{take}
use Rattle.std.specs.Ordering.{nat_cmp}
use Rattle.context_model.specs.Orders.{Rises}
use Rattle.graph_text.proofs.Ranges.{Covers}
use Rattle.graph_text.proofs.views.merged.Given as goal

abbrev pub invariant-loop-range : goal.invariant-loop-range
invariant-loop-range l = Rises nat_cmp l.slots × Covers (take l.range-index l.ranges) l.slots l.next
