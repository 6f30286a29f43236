use Rattle.std.proofs.Common.{refl}
use Rattle.bag_value.proofs.Unions.{joined-union}
use Rattle.bag_value.proofs.in_place.join_set.Goals as goal

pub returns-clause-ok : goal.returns-clause-ok
returns-clause-ok c =
    joined-union c.args.ours.now c.args.theirs.now c.args.ours.now c.join.new.self c.is_bottom.ensures.known c.is_bottom-2.ensures.known c.requires
    refl c.in_ok-join.ensures.ok
