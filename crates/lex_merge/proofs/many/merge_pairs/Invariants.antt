use Rattle.std.proofs.Common.{◌+◌, ◌*◌, ◌<◌, ◌≤◌, ◌++◌, length}
use Rattle.std.specs.Vec.Iter.{into_iter_items, into_iter_len}
use Rattle.lex_merge.specs.Many.{StandFor}
use Rattle.lex_merge.proofs.many.merge_pairs.Given as goal

abbrev pub invariant-loop-first : goal.invariant-loop-first
invariant-loop-first l = record {
  same : StandFor (l.fewer.items ++ into_iter_items l.left) l.fn.contexts.items;
  half : 2 * length l.fewer.items + into_iter_len l.left ≤ length l.fn.contexts.items + 1;
  even : 0 < into_iter_len l.left → 2 * length l.fewer.items + into_iter_len l.left ≤ length l.fn.contexts.items;
}

abbrev pub decreases-loop-first : goal.decreases-loop-first
decreases-loop-first l = into_iter_len l.left
