use Rattle.std.proofs.Common.{◌≡◌, ◌+◌, ◌-◌, ◌≤◌, ◌++◌, length, drop}
use Rattle.context_model.specs.KeyedMerge.{brings}
use Rattle.counter_type.proofs.entries.brought.Given as goal

abbrev pub invariant-loop-i : goal.invariant-loop-i
invariant-loop-i g l = record {
  within_ours : l.i ≤ length l.ours;
  within_theirs : l.j ≤ length l.theirs;
  so_far : l.news.items ++ brings (g.K.Keys.order l.keys) g.L.Lattice.joined (drop l.i l.ours) (drop l.j l.theirs) ≡ brings (g.K.Keys.order l.keys) g.L.Lattice.joined l.ours l.theirs;
}

abbrev pub decreases-loop-i : goal.decreases-loop-i
decreases-loop-i g l = (length l.ours - l.i) + (length l.theirs - l.j)
