use Rattle.std.proofs.Common.{IfOk, rules}
use Rattle.std.proofs.lemmas.Result.{IfOk-at_ok}
use Rattle.context_model.specs.Merged.{IsMerged}
use Rattle.fan_in.specs.Pools.{lists_at_places}
use Rattle.fan_in.proofs.Halves.{halves_if_ok}
use Rattle.fan_in.proofs.forked.merge_beside.Goals as goal

pub returns : goal.returns
returns g c =
    let pool = c.args.pool.now in
    let places = c.args.places.now in
    let left = c.split_at.result.0.now in
    let right = c.split_at.result.1.now in
    let of_left : IfOk c.join-first.result.0 (IsMerged (lists_at_places pool left)) = search rules in
    let of_right : IfOk c.join-first.result.1 (IsMerged (lists_at_places pool right)) = search rules in
    halves_if_ok c.merges_in_groups.ensures pool places left right c.in_ok-first.field-0 c.in_ok-second.field-0 c.merge-3.result c.split_at.ensures.by_index.0
    (IfOk-at_ok _ {r = c.join-first.result.0} c.in_ok-first.was of_left) (IfOk-at_ok _ {r = c.join-first.result.1} c.in_ok-second.was of_right) c.merge-3.ensures.greedy
