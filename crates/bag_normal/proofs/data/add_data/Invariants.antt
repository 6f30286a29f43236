use Rattle.bag_normal.specs.Data.{RisesUpTo, AddsPlaces, IsDatumBetween}
use Rattle.bag_normal.proofs.data.add_data.Given as goal

abbrev pub invariant-loop-at : goal.invariant-loop-at
invariant-loop-at l = record {
  rises : RisesUpTo l.gone.items l.at;
  adds : AddsPlaces (IsDatumBetween l.list l.from l.at) l.fn.gone.items l.gone.items;
}
