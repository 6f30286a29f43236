use Rattle.std.proofs.Common.{◌≡◌, ◌*◌, ◌≤◌, sum_by, take}
use Rattle.counter_type.proofs.counts.Counts.total.Given as goal

abbrev pub invariant-loop-count : goal.invariant-loop-count
invariant-loop-count l = record {
  bound : l.total ≤ l.count-index * 18446744073709551615;
  so_far : l.total ≡ sum_by (λ entry. entry.1) (take l.count-index l.count-items);
}
