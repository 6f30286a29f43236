use Rattle.std.proofs.Common.{take}
use Rattle.write_proof.specs.Reaching.{AreMarked}
use Rattle.write_proof.proofs.reaching.mark_parents.Given as goal

abbrev pub invariant-loop-parent : goal.invariant-loop-parent
invariant-loop-parent l = AreMarked (take l.parent-index l.parents) l.child l.initial.children.items l.children.items
