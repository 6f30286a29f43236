use Rattle.std.proofs.Common.{◌≡◌, ℕ, Some, take}
use Rattle.context_model.specs.Orders.{IsIn}
use Rattle.graph_text.specs.Names.{service_at}
use Rattle.graph_text.proofs.reader.Reader.common_service.Given as goal

abbrev pub invariant-loop-parent : goal.invariant-loop-parent
invariant-loop-parent l = (n : ℕ) → IsIn n (take l.parent-index l.parents) → service_at l.self n ≡ Some l.service
