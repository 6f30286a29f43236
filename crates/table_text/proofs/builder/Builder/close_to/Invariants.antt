use Rattle.std.proofs.Common.{◌≡◌, ◌≤◌}
use Rattle.table_text.specs.Builder.{IsSoundBuilder, depth_of, rows_so_far}
use Rattle.table_text.proofs.builder.Builder.close_to.Given as goal

abbrev pub invariant-loop-self : goal.invariant-loop-self
invariant-loop-self l = record {
  sound : IsSoundBuilder l.self;
  rows : rows_so_far l.self ≡ rows_so_far l.initial.self;
  depth : l.depth ≤ depth_of l.self;
}

abbrev pub decreases-loop-self : goal.decreases-loop-self
decreases-loop-self l = depth_of l.self
