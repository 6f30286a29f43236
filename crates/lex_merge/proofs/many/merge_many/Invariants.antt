use Rattle.std.proofs.Common.{length}
use Rattle.lex_merge.specs.Many.{StandFor}
use Rattle.lex_merge.proofs.many.merge_many.Given as goal

abbrev pub invariant-loop-contexts : goal.invariant-loop-contexts
invariant-loop-contexts l = StandFor l.contexts.items l.fn.contexts.items

abbrev pub decreases-loop-contexts : goal.decreases-loop-contexts
decreases-loop-contexts l = length l.contexts.items
