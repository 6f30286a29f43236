use Rattle.std.proofs.Common.{◌-◌, length}
use Rattle.context_model.specs.Paths.{path_before}
use Rattle.bag_model.specs.NormalForm.{GreatestDatum}
use Rattle.bag_normal.specs.Data.{RisesUpTo}
use Rattle.bag_normal.specs.Known.{GivesWayAt}
use Rattle.bag_normal.proofs.Keys.{AddsKeys}
use Rattle.bag_normal.proofs.fields.add_counts.Given as goal

abbrev pub invariant-writers : goal.invariant-writers
invariant-writers l = record {
  rises : RisesUpTo l.gone.items l.place;
  keys : AddsKeys (GivesWayAt GreatestDatum l.list) l.list (path_before l.list l.fn.from) l.fn.from l.place l.fn.gone.items l.gone.items;
}

abbrev pub decreases-writers : goal.decreases-writers
decreases-writers l = length l.list - l.place
