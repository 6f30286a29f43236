use Rattle.bag_walks.specs.Gathering.{IsLastDatum}
use Rattle.bag_scan.proofs.data.last_datum.Given as goal

abbrev pub invariant-loop-at : goal.invariant-loop-at
invariant-loop-at l = IsLastDatum l.list l.from l.at l.last
