use Rattle.write_proof.specs.ChildRows.{AreRowsTo}
use Rattle.write_proof.proofs.child_rows.rows_of_children.Given as goal

abbrev pub invariant-loop-child : goal.invariant-loop-child
invariant-loop-child l = AreRowsTo l.graph l.child l.rows.items
