use Rattle.std.proofs.Common.{◌++◌, drop}
use Rattle.bag_model.specs.Shapes as shapes
use Rattle.bag_model.specs.Values as values
use Rattle.bag_encode.specs.Values.{atoms_of}
use Rattle.bag_encode.proofs.Steps.{IsOnWay}
use Rattle.bag_encode.proofs.values.put_counts.Given as goal

abbrev pub invariant-loop-at : goal.invariant-loop-at
invariant-loop-at l =
    IsOnWay (l.initial.list ++ atoms_of shapes.Shape.Counter l.level (values.Value.Counter l.counts)) l.list
    (atoms_of shapes.Shape.Counter l.level (values.Value.Counter (drop l.at l.counts)))
