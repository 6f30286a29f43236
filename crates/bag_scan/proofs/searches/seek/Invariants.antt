use Rattle.bag_walks.specs.Searches.{HasPassed}
use Rattle.bag_scan.proofs.searches.seek.Given as goal

abbrev pub invariant-loop-at : goal.invariant-loop-at
invariant-loop-at l = HasPassed l.list l.level l.header l.from l.at
