use Rattle.std.proofs.Common.{◌++◌, map, drop}
use Rattle.bag_encode.specs.Values.{atoms, bare, trees_by, scalar_datum}
use Rattle.bag_encode.proofs.Steps.{IsOnWay}
use Rattle.scalar_types.specs.KindViews.{kind_of}
use Rattle.scalar_types.specs.Scalars.{value_of}
use Rattle.bag_encode.proofs.values.put_set.Given as goal

abbrev pub invariant-loop-at : goal.invariant-loop-at
invariant-loop-at l =
    IsOnWay (l.initial.list ++ atoms (trees_by (scalar_datum (kind_of l.kind)) (λ _. bare) (map value_of l.set.items))) l.list
    (atoms (trees_by (scalar_datum (kind_of l.kind)) (λ _. bare) (map value_of (drop l.at l.set.items))))
