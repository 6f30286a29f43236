use Rattle.std.proofs.Common.{ℕ, ◌<◌, get_or}
use Rattle.recorded_graph.specs.Plain.{step_of}
use Rattle.recorded_graph.specs.Graphs.{MayHaveParent}
use Rattle.recorded_graph.proofs.graphs.Graph.may_have_parents.Given as goal

abbrev pub invariant-loop-parent : goal.invariant-loop-parent
invariant-loop-parent l = (k : ℕ) → k < l.parent-index → MayHaveParent l.self (step_of l.step) (get_or l.parent-items k 0)
