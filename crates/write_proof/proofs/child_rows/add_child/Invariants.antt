use Rattle.std.proofs.Common.{take}
use Rattle.write_proof.specs.ChildRows.{AreAdded}
use Rattle.write_proof.proofs.child_rows.add_child.Given as goal

abbrev pub invariant-loop-parent : goal.invariant-loop-parent
invariant-loop-parent l = AreAdded (take l.parent-index l.parents) l.child l.initial.rows.items l.rows.items
