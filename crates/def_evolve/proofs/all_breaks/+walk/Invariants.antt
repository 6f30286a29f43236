use Rattle.std.proofs.Common.{map}
use Rattle.bag_model.specs.Sizes.{shape_size, nodes_size}
use Rattle.field_table.specs.Plain.{nodes_of, shape_of}
use Rattle.def_evolve.specs.BreakLists.{break_of}
use Rattle.def_evolve.proofs.BreakSteps.{BreaksUpTo}
use Rattle.def_evolve.proofs.all_breaks.+walk.Given as goal

abbrev pub decreases-breaks_of : goal.decreases-breaks_of
decreases-breaks_of l = shape_size (shape_of l.old.now)

abbrev pub decreases-breaks_in : goal.decreases-breaks_in
decreases-breaks_in l = nodes_size (nodes_of l.fields.now)

abbrev pub invariant-breaks_in-loop-at : goal.invariant-breaks_in-loop-at
invariant-breaks_in-loop-at l = BreaksUpTo (nodes_of l.fields) (nodes_of l.others) l.at (map break_of l.found.items)
