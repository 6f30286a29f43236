use Rattle.bag_scan.specs.Searches.{PassesNoKey}
use Rattle.bag_scan.proofs.searches.find_key.Given as goal

abbrev pub invariant-loop-at : goal.invariant-loop-at
invariant-loop-at l = PassesNoKey l.list l.level l.from l.at
