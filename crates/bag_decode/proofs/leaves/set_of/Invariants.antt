use Rattle.std.proofs.Common.{◌≡◌, map}
use Rattle.bag_walks.specs.Gathering.{GathersData}
use Rattle.scalar_types.specs.KindViews.{kind_of}
use Rattle.scalar_types.specs.Scalars.{value_of}
use Rattle.bag_decode.proofs.leaves.set_of.Given as goal

abbrev pub invariant-loop-at : goal.invariant-loop-at
invariant-loop-at l = record {
  codec : l.set.codec ≡ l.kind;
  gathers : GathersData (kind_of l.kind) l.list l.from l.at (map value_of l.set.items);
}
