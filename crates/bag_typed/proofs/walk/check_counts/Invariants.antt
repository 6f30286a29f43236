use Rattle.std.proofs.Common.{◌-◌, length}
use Rattle.context_model.specs.Paths.{path_before}
use Rattle.bag_typed.proofs.Keys.{ClearsKeys}
use Rattle.bag_typed.proofs.Shapes.{of_writer}
use Rattle.bag_typed.proofs.walk.check_counts.Given as goal

abbrev pub invariant-writers : goal.invariant-writers
invariant-writers l = ClearsKeys (of_writer (path_before l.list l.from)) l.list (path_before l.list l.from) l.from l.place

abbrev pub decreases-writers : goal.decreases-writers
decreases-writers l = length l.list - l.place
