use Rattle.std.proofs.Common.{take}
use Rattle.topological_order.specs.Components.{AreNumbered}
use Rattle.topological_order.proofs.components.number.Given as goal

abbrev pub invariant-loop-node : goal.invariant-loop-node
invariant-loop-node l = AreNumbered (take l.node-index l.nodes) l.component l.initial.numbers.items l.numbers.items
