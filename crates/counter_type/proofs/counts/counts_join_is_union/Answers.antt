use Rattle.counter_type.specs.Counts.{counts_union}
use Rattle.counter_type.proofs.counts.counts_join_is_union.Goals as goal

pub returns : goal.returns
returns c = counts_union
