use Rattle.std.proofs.Common.{◌≡◌, ◌+◌, ◌-◌, ◌++◌, length}
use Rattle.context_model.specs.Orders.{atom_cmp}
use Rattle.context_model.specs.GreedyMerge.{greedy_merge}
use Rattle.lex_merge.specs.Runs.{merge_from, ComesLater, HasMergeRoom}
use Rattle.lex_merge.proofs.merge_behind.Given as goal

abbrev pub invariant-loop-i : goal.invariant-loop-i
invariant-loop-i l = record {
  room : HasMergeRoom l.a l.i l.b l.j l.built;
  so_far : l.built.atoms ++ merge_from l.a l.i l.b l.j ≡ greedy_merge atom_cmp l.a l.b;
  heads : ComesLater l.a l.i l.b l.j;
}

abbrev pub decreases-loop-i : goal.decreases-loop-i
decreases-loop-i l = (length l.a - l.i) + (length l.b - l.j)
