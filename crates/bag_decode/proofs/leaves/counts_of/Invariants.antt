use Rattle.std.proofs.Common.{◌-◌, length}
use Rattle.context_model.specs.Paths.{path_before}
use Rattle.bag_walks.specs.Parts.{StaysBelow}
use Rattle.bag_walks.specs.Gathering.{GathersCounts}
use Rattle.bag_decode.proofs.leaves.counts_of.Given as goal

abbrev pub invariant-keys : goal.invariant-keys
invariant-keys l = record {
  stays : StaysBelow l.list (length (path_before l.list l.from)) l.from l.place;
  gathers : GathersCounts l.list (path_before l.list l.from) l.from l.place l.counts;
}

abbrev pub decreases-keys : goal.decreases-keys
decreases-keys l = length l.list - l.place
