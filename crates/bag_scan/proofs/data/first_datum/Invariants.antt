use Rattle.std.proofs.Common.{None}
use Rattle.bag_walks.specs.Gathering.{IsFirstDatum}
use Rattle.bag_scan.proofs.data.first_datum.Given as goal

abbrev pub invariant-loop-at : goal.invariant-loop-at
invariant-loop-at l = IsFirstDatum l.list l.from l.at None
