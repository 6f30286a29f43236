use Rattle.std.proofs.Common.{◌-◌, ◌≤◌, length, take, drop}
use Rattle.context_model.proofs.Search.{Before, Behind}
use Rattle.counter_type.proofs.entries.value_at.Given as goal

abbrev pub invariant-loop-low : goal.invariant-loop-low
invariant-loop-low g l = record {
  ordered : l.low ≤ l.high;
  within : l.high ≤ length l.entries;
  before : Before (λ e. e.0) (g.K.Keys.order l.keys) l.key (take l.low l.entries);
  behind : Behind (λ e. e.0) (g.K.Keys.order l.keys) l.key (drop l.high l.entries);
}

abbrev pub decreases-loop-low : goal.decreases-loop-low
decreases-loop-low g l = l.high - l.low
