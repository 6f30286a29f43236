use Rattle.std.proofs.Common.{map, take}
use Rattle.graph_text.specs.Additions.{AreRangesOf}
use Rattle.graph_text.proofs.views.ranges_of.Given as goal

abbrev pub invariant-loop-path : goal.invariant-loop-path
invariant-loop-path l = AreRangesOf l.table (map (λ path. path.now) (take l.path-index l.paths)) l.ranges.items
