use Rattle.fan_in.proofs.Halves.{halves_if_ok}
use Rattle.fan_in.proofs.forked.merge_in_turn.Goals as goal

pub returns : goal.returns
returns g c =
    halves_if_ok c.merges_in_groups.ensures c.args.pool.now c.args.places.now c.split_at.result.0.now c.split_at.result.1.now c.in_ok-first.first c.in_ok-second.second c.merge.result
    c.split_at.ensures.by_index.0 c.in_ok-first.ensures c.in_ok-second.ensures c.merge.ensures.greedy
