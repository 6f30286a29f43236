use Rattle.std.proofs.Common.{ℕ, ◌<◌, length, take}
use Rattle.context_model.specs.Orders.{IsIn}
use Rattle.graph_text.proofs.reader.Reader.check_earlier.Given as goal

abbrev pub invariant-loop-parent : goal.invariant-loop-parent
invariant-loop-parent l = (n : ℕ) → IsIn n (take l.parent-index l.parents) → n < length l.self.steps
