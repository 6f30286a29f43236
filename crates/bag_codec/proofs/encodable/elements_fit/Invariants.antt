use Rattle.std.proofs.Common.{◌↔◌, map, drop}
use Rattle.std.specs.List.{AllByRecursion}
use Rattle.scalar_types.specs.KindViews.{kind_of}
use Rattle.scalar_types.specs.Scalars.{value_of}
use Rattle.bag_codec.specs.Encodable.{FitsAtom}
use Rattle.bag_codec.proofs.encodable.elements_fit.Given as goal

abbrev pub invariant-loop-at : goal.invariant-loop-at
invariant-loop-at l =
    AllByRecursion (FitsAtom (kind_of l.kind)) (map value_of l.set.items)
    ↔ AllByRecursion (FitsAtom (kind_of l.kind)) (map value_of (drop l.at l.set.items))
