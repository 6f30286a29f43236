use Rattle.write_proof.specs.Reaching.{AreChildren}
use Rattle.write_proof.proofs.reaching.least_children.Given as goal

abbrev pub invariant-loop-child : goal.invariant-loop-child
invariant-loop-child l = AreChildren l.graph l.last l.child l.children.items
