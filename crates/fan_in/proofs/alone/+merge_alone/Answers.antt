use Rattle.fan_in.proofs.Halves.{halves_if_ok}
use Rattle.fan_in.proofs.alone.+merge_alone.Goals as goal

pub returns-in_ok-second-in_default : goal.returns-in_ok-second-in_default
returns-in_ok-second-in_default t c =
    halves_if_ok c.merges_in_groups.ensures c.args.pool.now c.args.places.now c.split_at.result.0.now c.split_at.result.1.now c.in_ok-first-in_default.first c.in_ok-second-in_default.second c.merge-in_default.result
    c.split_at.ensures.by_index.0 c.in_ok-first-in_default.ensures c.in_ok-second-in_default.ensures c.merge-in_default.ensures.greedy
