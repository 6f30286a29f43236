use Rattle.bag_walks.specs.Parts.{HasNoHeader}
use Rattle.bag_scan.proofs.parts.data_end.Given as goal

abbrev pub invariant-loop-at : goal.invariant-loop-at
invariant-loop-at l = HasNoHeader l.list l.from l.at
