use Rattle.std.proofs.Common.{◌*◌, length, take}
use Rattle.par_ranks.specs.Rows.{AreMade}
use Rattle.par_ranks.proofs.rows.gather.Given as goal

abbrev pub invariant-loop-part : goal.invariant-loop-part
invariant-loop-part g l = AreMade l.run.table.now l.run.graph.now l.lists (take (length l.yielded * l.size) l.row) l.made.items
